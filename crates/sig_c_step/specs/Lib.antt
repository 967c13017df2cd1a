pub mod Headers
pub mod Names
pub mod Translation
pub mod Correct
