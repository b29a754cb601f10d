-- Laws that belong to no one function.
pub mod Tests
pub mod Bytes
pub mod Classes
pub mod Laws
