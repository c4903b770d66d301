-- Laws that the proofs of the functions cite.
pub mod NumberBits
pub mod SiteBuiltins
pub mod TableLoops
pub mod SameOrders
pub mod OrderCounting
pub mod RuleFacts
pub mod AnswerLaws
pub mod LookParams
pub mod RowNode
pub mod RowKinds
pub mod LookLaws
pub mod SiteCalls
