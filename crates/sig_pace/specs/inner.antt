-- Definitions that no other crate cites.
pub mod Asked
pub mod Leaders
pub mod Names
pub mod Tops
