-- What the contracts of this crate cite, over the definitions of crate `model` and the words of crate `record`.
pub mod Row
pub mod Rows
pub mod Look
pub mod Answer
pub mod SiteReply
pub mod DueTime
