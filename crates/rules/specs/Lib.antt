-- What the contracts of the tests of a whole record cite.
pub mod Tested
