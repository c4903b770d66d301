-- When a node's words keep the index rules, row by row.
pub mod NodeWords
