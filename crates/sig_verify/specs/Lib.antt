pub mod Prelude
pub mod Verifying
pub mod inner
