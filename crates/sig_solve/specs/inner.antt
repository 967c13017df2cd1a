-- Definitions that no other crate cites.
pub mod Answers
pub mod Asked
pub mod Awaiting
pub mod Classes
pub mod Free
pub mod Guards
pub mod Orders
pub mod Rounds
