pub mod Turn
pub mod Header
pub mod Internal
