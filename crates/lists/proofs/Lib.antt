pub mod NumericClaims
pub mod ChannelClaims
pub mod CoordinateClaims
