-- Laws of the instructions that make a token.
pub mod Spawning
