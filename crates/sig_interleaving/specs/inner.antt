-- Definitions that no other crate cites.
pub mod Acting
pub mod First
pub mod Making
pub mod Resting
