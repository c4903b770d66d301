-- Laws that the loader's proofs share: the definitions, the program, the table.
pub mod ProgramWords
pub mod ProgramDefinitions
pub mod ProgramWhole
pub mod TableLoad
