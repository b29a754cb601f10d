pub mod MnemonicClaims
pub mod NameClaims
