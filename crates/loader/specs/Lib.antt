-- What the loader gives and stores, in the words of the definitions of `job`.
pub mod TableLoaded
pub mod ProgramStored
