pub mod ItemClaims
pub mod UnitClaims
pub mod HeaderClaims
