pub mod Coordinate
pub mod Reading
pub mod Form
