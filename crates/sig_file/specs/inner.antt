-- Definitions that no other crate cites.
pub mod Names
pub mod NodeSets
pub mod Numbering
pub mod Parts
pub mod Reading
