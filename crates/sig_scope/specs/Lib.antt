pub mod Prelude
pub mod Declarations
pub mod Places
pub mod Typed
pub mod Walked
pub mod inner
