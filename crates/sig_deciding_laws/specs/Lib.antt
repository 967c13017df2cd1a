pub mod Prelude
pub mod KernelRuns
