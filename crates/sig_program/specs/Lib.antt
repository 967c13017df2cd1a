pub mod Prelude
pub mod Acceptance
pub mod Programs
