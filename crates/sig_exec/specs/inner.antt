-- Definitions that no other crate cites.
pub mod Functions
pub mod Instants
pub mod Lowerings
pub mod Machines
pub mod Outcomes
