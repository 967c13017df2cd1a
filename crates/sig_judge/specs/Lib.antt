pub mod Prelude
pub mod Rows
pub mod Shown
pub mod TraceFiles
pub mod Verdicts
pub mod inner
