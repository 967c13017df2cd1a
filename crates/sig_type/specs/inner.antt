-- Definitions that no other crate cites.
pub mod Asked
pub mod Findings
pub mod Unknown
