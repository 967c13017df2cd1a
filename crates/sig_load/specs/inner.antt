-- Definitions that no other crate cites.
pub mod Draws
pub mod Pieces
