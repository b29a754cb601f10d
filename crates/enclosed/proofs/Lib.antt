-- Laws that belong to no one function.
pub mod Strings
pub mod Expressions
