-- The answers for the entries of an expression, in the words of the definitions of `job`.
pub mod Refusal
pub mod NamedKind
pub mod Parts
pub mod Checked
pub mod Scope
pub mod EntryFault
pub mod ExpressionSides
