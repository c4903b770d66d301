-- What the contracts of this crate cite, over the definitions of crate `model` and the words of crate `record`.
pub mod Acting
pub mod SharedFrames
pub mod Links
