-- Definitions that no other crate cites.
pub mod Lines
pub mod Numbers
pub mod Said
