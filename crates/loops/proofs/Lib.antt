-- A loop in tail position runs in bounded tables: weights of nodes and tokens, kept by every step, are at least what is in use.
pub mod Weights
pub mod StepWeighs
pub mod CodeWeighs
pub mod Covered
pub mod Room
pub mod NotFull
pub mod StepRefusals
pub mod BoundedRuns
pub mod Bounded
pub mod Worked
