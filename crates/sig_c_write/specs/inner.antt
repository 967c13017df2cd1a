pub mod Blocks
pub mod Frames
pub mod GuardBytes
pub mod Lines
pub mod Tables
