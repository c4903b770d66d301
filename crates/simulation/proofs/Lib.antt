-- The abstract machine; then which of its states stand for which expressions, and that both do the same.
pub mod Shuffle
pub mod AbstractMachine
pub mod Store
pub mod Cells
pub mod Binding
pub mod Relation
pub mod Hole
pub mod Outcome
pub mod Coded
pub mod MovesSound
pub mod RunsSound
pub mod Ready
pub mod Complete
