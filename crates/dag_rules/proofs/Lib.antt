-- Laws of the tests of a dag's words.
pub mod NodeWords
pub mod DagLaws
