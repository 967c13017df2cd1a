-- Definitions that no other crate cites.
pub mod Counts
pub mod Graphs
pub mod Marks
pub mod Memories
