-- Laws that belong to no one function.
pub mod Places
pub mod Looks
pub mod Tokens
pub mod Mnemonics
pub mod Endings
pub mod Settled
pub mod Inverse
pub mod Walks
pub mod Fronts
pub mod Once
