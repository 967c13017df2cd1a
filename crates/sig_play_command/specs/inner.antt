-- Definitions that no other crate cites.
pub mod EventFiles
pub mod Happening
pub mod Standing
pub mod StateLines
