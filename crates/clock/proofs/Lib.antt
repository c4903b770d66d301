-- Laws of a clock move's steps.
pub mod FirstSorted
pub mod WakeOneByOne
