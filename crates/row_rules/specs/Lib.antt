-- What the contracts of the tests cite.
pub mod ValuesFit
pub mod RowRules
