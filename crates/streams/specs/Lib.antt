-- What an error leaves of a read or a write.
pub mod Parts
