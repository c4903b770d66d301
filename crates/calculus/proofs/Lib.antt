-- Laws and worked examples of the calculus.
pub mod Substitution
pub mod Computing
pub mod Moves
pub mod Search
pub mod Builtins
pub mod Programs
pub mod Meaning
pub mod Allowed
pub mod NotAllowed
pub mod Marked
pub mod Silent
