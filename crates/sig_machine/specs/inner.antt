-- Definitions that no other crate cites.
pub mod OnCells
pub mod Own
pub mod Sources
pub mod Truths
pub mod Works
