-- What is left of a frame.
pub mod Frame
