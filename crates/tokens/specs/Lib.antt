pub mod StepClaims
pub mod ReaderClaims
