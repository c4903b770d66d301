-- Laws that the proofs of the code cite.
pub mod Written
pub mod UnsignedDigits
pub mod SignedDigits
