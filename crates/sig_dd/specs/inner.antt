-- Definitions that no other crate cites.
pub mod Meets
pub mod Renaming
pub mod Support
