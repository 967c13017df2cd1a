pub mod Prelude
pub mod Outputs
