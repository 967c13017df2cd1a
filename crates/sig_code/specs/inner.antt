-- Definitions that no other crate cites.
pub mod Coding
pub mod Turns
