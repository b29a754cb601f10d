-- Laws that belong to no one function.
pub mod Shape
pub mod Defaults
pub mod Shared
pub mod Theorem
pub mod Verdicts
pub mod Told
