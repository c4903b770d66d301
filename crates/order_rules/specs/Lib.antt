-- What the contracts of the tests of the orders cite.
pub mod OrderCounts
