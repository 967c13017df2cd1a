pub mod Prelude
pub mod Ends
pub mod Faults
pub mod Outcomes
pub mod Reactions
