-- Laws that belong to no one function.
pub mod Nondecimals
pub mod Blocks
pub mod Definite
