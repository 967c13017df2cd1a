pub mod Prelude
pub mod Bytes
pub mod Lexemes
pub mod Shown
pub mod Slices
pub mod Tables
pub mod Tokens
pub mod inner
