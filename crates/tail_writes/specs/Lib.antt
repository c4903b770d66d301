-- A node of a dag that keeps the rules.
pub mod Tail
