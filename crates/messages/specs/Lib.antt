pub mod RecordClaims
pub mod MessageClaims
