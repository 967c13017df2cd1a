pub mod Prelude
pub mod Ready
pub mod Runs
pub mod inner
