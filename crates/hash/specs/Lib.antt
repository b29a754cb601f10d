pub mod Nondecimal
pub mod Block
