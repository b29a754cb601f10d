pub mod Tree
pub mod Steps
