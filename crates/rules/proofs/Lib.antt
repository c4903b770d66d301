-- Laws of the tests of a whole record; beside them stand the proofs of its functions.
pub mod HandlesLaws
pub mod RestBlank
pub mod RulesRows
pub mod OneRow
pub mod RulesGrouped
pub mod RulesDecoded
