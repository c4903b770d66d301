-- What a turn is asked, and what it leaves.
pub mod Turn
