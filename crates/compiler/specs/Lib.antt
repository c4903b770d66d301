-- What the compiler writes, said of a reading. Assumes nothing: these are definitions.
pub mod CallNodeWords
pub mod PlanSides
pub mod JoinRoot
pub mod ExpressionCompiled
pub mod Body
