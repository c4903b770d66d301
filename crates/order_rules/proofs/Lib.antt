-- Laws of the tests of the orders; beside them stand the proofs of its functions.
pub mod OrderCounts
