-- "Twelve marked runs": inputs and outputs. Of one of them, and of a metronome: "A weekly loop that never ends".
pub mod Marked
pub mod Endless
pub mod Metronome
