pub mod Prelude
pub mod Complete
pub mod Plays
pub mod inner
