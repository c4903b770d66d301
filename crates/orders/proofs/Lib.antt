-- Laws of an order in an array.
pub mod NamesPadded
pub mod NamesRetained
pub mod ZeroLaws
