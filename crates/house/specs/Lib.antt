-- What is known of a dag that was loaded, and what a turn leaves.
pub mod LoadedDag
pub mod TurnLeaves
