pub mod Prelude
pub mod Texts
pub mod Trees
