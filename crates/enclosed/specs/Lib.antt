pub mod String
pub mod Expression
