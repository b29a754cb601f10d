pub mod Digit
pub mod Number
