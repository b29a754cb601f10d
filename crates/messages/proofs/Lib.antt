pub mod RecordClaims
pub mod MessageClaims
pub mod Alone
pub mod Fields
pub mod Once
pub mod Slots
