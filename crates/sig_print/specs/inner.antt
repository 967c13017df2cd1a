-- Definitions that no other crate cites.
pub mod Levels
pub mod Prints
pub mod Words
