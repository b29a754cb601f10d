pub mod Word
pub mod Tree
