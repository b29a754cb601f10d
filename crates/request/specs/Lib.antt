pub mod Claims
pub mod Field
pub mod Hex
pub mod Unhex
pub mod Slash
pub mod Number
pub mod Words
pub mod TableClaims
