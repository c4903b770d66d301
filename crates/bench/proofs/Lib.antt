-- Laws of the timed calls.
pub mod Calling
pub mod LoadedTable
