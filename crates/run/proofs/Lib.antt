-- Laws of a run: the parts of an input, and the pieces of an output.
pub mod InputLaws
pub mod OrcrunLaws
pub mod Pieces
