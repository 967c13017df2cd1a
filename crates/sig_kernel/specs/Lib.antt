pub mod Prelude
pub mod KernelTraces
pub mod OutputText
pub mod Table
pub mod Validity
