-- Definitions that no other crate cites.
pub mod Decides
pub mod Headers
pub mod Nodes
