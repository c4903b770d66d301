-- The reader's answers, in the words of the definitions of `job`.
pub mod Definition
pub mod Table
