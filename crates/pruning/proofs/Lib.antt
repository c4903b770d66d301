-- Laws of a choke's loops.
pub mod ChokeLaws
