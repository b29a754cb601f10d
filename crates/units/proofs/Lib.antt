pub mod ItemClaims
pub mod ItemAnswers
pub mod ItemCommon
pub mod UnitClaims
pub mod UnitAnswers
pub mod HeaderClaims
pub mod HeaderSome
pub mod HeaderOnward
