-- Definitions that no other crate cites.
pub mod Ahead
pub mod Beginnings
pub mod Keywords
pub mod Operators
pub mod Repeats
