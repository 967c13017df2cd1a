pub mod Prelude
pub mod Bindings
pub mod Constants
pub mod Making
pub mod Places
pub mod inner
