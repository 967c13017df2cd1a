-- Definitions that no other crate cites.
pub mod Calling
pub mod Copies
pub mod MadeOf
