-- Tables whose definitions loop in tail position, what they need, and the statement that they run in bounded tables. Read in this order.
pub mod Looping
pub mod Needed
pub mod Bounded
