-- Laws that the proofs of the code cite, by the source file whose code they are about.
pub mod EntryWord
pub mod EntryKinds
pub mod RefusalNumbers
pub mod KindNames
pub mod ScopeLaws
pub mod EntryFault
pub mod CheckedLaws
pub mod ParameterLaws
pub mod ExpressionSides
pub mod ExpressionOpened
pub mod ExpressionNodes
pub mod ExpressionLaws
