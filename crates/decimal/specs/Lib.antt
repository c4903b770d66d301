-- What writing bytes into a buffer means.
pub mod Written
