pub mod Added
pub mod Claims
pub mod Number
pub mod Tokens
pub mod Units
pub mod Line
