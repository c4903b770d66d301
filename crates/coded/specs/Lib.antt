-- When words are a record's, and the tests that tell.
pub mod IsRecord
pub mod WordTests
