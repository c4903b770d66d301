-- "The calculus to compare with". Nothing of the machine is read here.
pub mod Expression
pub mod Event
pub mod Rewriting
pub mod Allowed
pub mod Meaning
