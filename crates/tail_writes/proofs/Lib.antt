-- Laws of the test for a tail call, and of bindings as words.
pub mod TailLooks
pub mod PassingWords
