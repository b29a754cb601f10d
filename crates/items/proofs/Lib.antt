-- Laws that belong to no one function.
pub mod Meets
pub mod Forms
pub mod Counts
