pub mod Children
pub mod Block
