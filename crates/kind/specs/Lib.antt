pub mod Text
pub mod Class
pub mod Kind
