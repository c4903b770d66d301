-- What a tail call leaves.
pub mod BecomesCallee
