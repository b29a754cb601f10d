pub mod View
pub mod Token
