-- Definitions that no other crate cites.
pub mod Implied
pub mod Quick
pub mod Tests
pub mod Ways
