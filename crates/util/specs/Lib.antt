pub mod Run
pub mod Walk
pub mod Decides
