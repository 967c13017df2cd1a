pub mod Prelude
pub mod Ends
