pub mod Prelude
pub mod Running
pub mod inner
