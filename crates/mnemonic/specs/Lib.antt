pub mod Mnemonic
pub mod Spelling
