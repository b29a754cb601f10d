-- Laws that belong to no one function.
pub mod Bytes
pub mod Matching
pub mod Fronts
pub mod Mnemonics
pub mod Tails
pub mod Names
pub mod Nodes
