-- Laws that the proofs of the code cite, by the source file whose code they are about.
pub mod CallsLaws
pub mod DefinitionLaws
pub mod DefinitionLoop
pub mod ProgramParts
pub mod ProgramNodes
pub mod ProgramLaws
pub mod TableLaws
