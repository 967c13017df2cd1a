-- Definitions that no other crate cites.
pub mod Asking
pub mod Diagrams
pub mod Known
pub mod Pairs
