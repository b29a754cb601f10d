pub mod Layout
pub mod Internal
