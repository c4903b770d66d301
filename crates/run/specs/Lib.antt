-- The parts of an input.
pub mod Input
