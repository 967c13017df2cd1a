-- Definitions that no other crate cites.
pub mod Stopping
pub mod Summaries
