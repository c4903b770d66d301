-- What a record of a run has beside its view: orders, tables, and blank places where nothing is in use.
pub mod NamedOnce
pub mod Orders
pub mod TableFacts
pub mod Facts
pub mod Clock
pub mod WakingOrder
pub mod Clean
