-- Laws of a turn: its tests, and what it gives.
pub mod TurnCases
pub mod TurnGives
