pub mod Calls
pub mod Counts
pub mod Files
pub mod MemFiles
pub mod MemSink
pub mod Read
pub mod Sink
