-- Laws that belong to no one function.
pub mod Fields
pub mod Parts
pub mod Pairs
pub mod Texts
pub mod Claims
pub mod Finds
pub mod Numbers
pub mod Stores
pub mod TableClaims
