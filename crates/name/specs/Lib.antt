pub mod Share
pub mod Parts
