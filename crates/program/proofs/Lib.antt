-- Laws of the program.
pub mod InputRoom
pub mod Handed
pub mod Enough
