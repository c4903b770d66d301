-- Marks of what is in use, and the next free place.
pub mod Marks
