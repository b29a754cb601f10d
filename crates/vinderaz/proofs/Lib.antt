-- Laws that belong to no one function.
pub mod Tree
pub mod Steps
