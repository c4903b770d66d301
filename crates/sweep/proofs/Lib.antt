-- Laws of the loops that make blank.
pub mod SweepLaws
