pub mod Unsigned
