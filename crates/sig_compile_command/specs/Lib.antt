pub mod Prelude
pub mod Compiling
pub mod Complete
pub mod Printing
