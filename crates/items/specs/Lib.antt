pub mod Entry
pub mod Items
pub mod Internal
