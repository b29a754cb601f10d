pub mod Spoken
pub mod Internal
