pub mod IntegerClaims
pub mod ItemForm
pub mod DecimalClaims
pub mod DecimalForm
pub mod EnclosedClaims
pub mod EnclosedForm
pub mod HashClaims
pub mod HashForm
