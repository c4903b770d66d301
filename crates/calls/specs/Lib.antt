-- What the contracts of this crate cite.
pub mod SiteCall
pub mod TimedReply
