pub mod Prelude
pub mod Complete
pub mod Loads
pub mod Refusals
pub mod inner
