pub mod Text
pub mod Given
pub mod inner
