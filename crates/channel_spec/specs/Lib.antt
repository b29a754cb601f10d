pub mod Spec
pub mod Item
