pub mod Prelude
pub mod Answers
pub mod Lines
pub mod Values
