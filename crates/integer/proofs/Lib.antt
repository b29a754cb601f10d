-- Laws that belong to no one function.
pub mod Digits
pub mod Values
pub mod Laws
pub mod Signs
