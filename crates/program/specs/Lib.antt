-- What the program reads.
pub mod Input
