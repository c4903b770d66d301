-- Laws of the tests that tell whether words are a record's.
pub mod IsRecord
pub mod WordTests
pub mod IsRecordRows
pub mod RecordRead
