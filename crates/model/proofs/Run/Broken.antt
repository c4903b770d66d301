-- The statement of demand 3 is not empty: each of its parts is false of a machine that is wrong in one thing.
pub mod Jumping
pub mod Late
pub mod Idle
