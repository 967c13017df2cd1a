pub mod Prelude
pub mod Flats
pub mod Kernels
pub mod Shown
pub mod Texts
