pub mod Functions
pub mod Lines
pub mod Places
pub mod Traces
