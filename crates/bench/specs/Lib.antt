-- What the timed calls give.
pub mod Timed
