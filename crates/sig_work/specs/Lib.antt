pub mod Prelude
pub mod Ends
pub mod Gathered
pub mod Members
pub mod Running
pub mod Shares
pub mod inner
