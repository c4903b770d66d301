-- "Runs and their lists", and the statement of demand 3.
pub mod Call
pub mod Follow
pub mod Demand3
