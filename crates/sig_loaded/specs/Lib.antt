pub mod Prelude
pub mod Ends
pub mod Runs
pub mod Complete
