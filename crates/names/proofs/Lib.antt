pub mod MnemonicClaims
pub mod Alike
pub mod Spelling
pub mod NameClaims
pub mod Heads
pub mod Shares
