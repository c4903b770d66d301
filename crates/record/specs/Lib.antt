-- The record as words: the layout, and what words hold.
pub mod Layout
pub mod LayoutDecoded
pub mod Changes
pub mod Holds
pub mod OrderWords
