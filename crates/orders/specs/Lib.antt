-- An order that keeps only the marked ones of its names.
pub mod NamesRetained
