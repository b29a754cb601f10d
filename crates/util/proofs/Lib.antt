-- Laws that belong to no one function.
pub mod Runs
pub mod Every
pub mod Walks
pub mod Decided
pub mod Before
