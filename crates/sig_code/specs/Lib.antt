pub mod Prelude
pub mod Made
pub mod Texts
pub mod inner
