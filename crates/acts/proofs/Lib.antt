-- Laws of the instructions.
pub mod Outcomes
pub mod Vacancy
pub mod StepAtNode
pub mod EndRebind
pub mod LinksBound
pub mod SharedFrames
pub mod CalleeSteps
