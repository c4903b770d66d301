-- Runs by the public calls are the runs of which demand 3 speaks.
pub mod PublicRun
