-- Laws of the tests of a token and of a cell.
pub mod ZeroRows
pub mod RangeLaws
pub mod BlankLaws
pub mod ChainLaws
pub mod NodeLaws
