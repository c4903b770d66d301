-- Laws of the record's words: what a word says of the record, and what writing one does to it.
pub mod PlaceNumber
pub mod LayoutTable
pub mod LayoutPart
pub mod LayoutParts
pub mod HoldsShape
pub mod TokenRow
pub mod SlotWords
pub mod CellRow
pub mod CountLaws
pub mod OrderLaws
pub mod TokenCopying
pub mod StartLaws
pub mod HoldsRuled
