-- "One step", the index rules and the refusals 9 to 15.
pub mod Limits
pub mod Held
pub mod State
pub mod Blank
pub mod Active
pub mod InUse
pub mod FreePlace
pub mod Rules
pub mod Update
pub mod Reply
pub mod Start
pub mod Step
pub mod Answer
pub mod Clock
pub mod WakingOrder
