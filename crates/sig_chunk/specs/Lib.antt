pub mod Chunks
pub mod Ends
