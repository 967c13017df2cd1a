-- Definitions that no other crate cites.
pub mod Passing
