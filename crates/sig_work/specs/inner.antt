-- Definitions that no other crate cites.
pub mod Among
pub mod Dealing
pub mod Rounds
pub mod Settling
pub mod Words
