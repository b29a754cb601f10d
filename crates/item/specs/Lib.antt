pub mod Follow
pub mod Near
pub mod Word
