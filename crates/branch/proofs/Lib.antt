pub mod Blocks
pub mod Picks
pub mod Once
