-- Document 01 as definitions: what a reader must believe. Read in this order.
pub mod Machine
pub mod Output
pub mod Run
