-- Runs by the public calls.
pub mod PublicRun
