pub mod Prelude
pub mod Answers
pub mod inner
