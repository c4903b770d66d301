-- The marked runs print what documents 01 and 02 say; E() = E() and the metronome go on.
pub mod Endless
pub mod Marked
pub mod Metronome
