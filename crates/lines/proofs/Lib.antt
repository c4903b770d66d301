-- Laws that the proofs of the code cite.
pub mod WordParts
pub mod LineParts
pub mod ShownBytes
pub mod WindowLaws
pub mod ReportLines
pub mod LastLines
