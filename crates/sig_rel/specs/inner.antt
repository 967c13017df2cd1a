-- Definitions that no other crate cites.
pub mod Elements
pub mod Firsts
pub mod FreeColumns
pub mod GeneralColumns
pub mod Numberings
pub mod OwnColumns
pub mod Residues
pub mod Rules
pub mod Schedules
pub mod Statuses
pub mod Substituted
pub mod Substitutions
pub mod Tables
pub mod TruthFunctions
pub mod Variables
