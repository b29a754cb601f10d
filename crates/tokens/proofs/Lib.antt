pub mod StepClaims
pub mod StepProgress
pub mod ReaderClaims
