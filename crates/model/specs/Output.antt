-- "`orcrun` and its lines".
pub mod Line
pub mod Orcrun
pub mod Printed
pub mod Grammar
