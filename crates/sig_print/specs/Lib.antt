pub mod Prelude
pub mod Canonical
pub mod inner
