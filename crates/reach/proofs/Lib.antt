-- Laws of the loops that mark.
pub mod ListLoops
pub mod MarkChain
pub mod UnderSet
pub mod UsedMarking
pub mod MarksEnd
