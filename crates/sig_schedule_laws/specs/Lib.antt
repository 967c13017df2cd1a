pub mod Prelude
pub mod Changes
pub mod Endings
pub mod Soundness
