-- Laws of a few writes, one behind the other.
pub mod Writes
