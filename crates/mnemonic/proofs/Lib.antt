-- Laws that belong to no one function.
pub mod Pairs
pub mod Bytes
pub mod Split
pub mod Compare
pub mod Match
