pub mod Prelude
pub mod Commits
pub mod Doing
pub mod Places
