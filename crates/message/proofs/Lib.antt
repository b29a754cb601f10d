-- Laws that belong to no one function.
pub mod Some
pub mod Fronts
pub mod Walks
pub mod Entries
