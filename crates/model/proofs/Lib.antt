-- Laws of the definitions, under the folder names of specs/.
pub mod Machine
pub mod Run
pub mod Keeps
