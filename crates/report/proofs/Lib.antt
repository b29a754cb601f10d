-- Laws that belong to no one function.
pub mod Adds
pub mod Numbers
pub mod Signs
pub mod Fronts
pub mod Parts
pub mod Steps
pub mod Lines
pub mod Claims
