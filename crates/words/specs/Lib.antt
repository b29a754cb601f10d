pub mod Outcome
pub mod Words
pub mod Token
pub mod Lists
