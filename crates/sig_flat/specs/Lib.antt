pub mod Prelude
pub mod Answers
pub mod Bodies
pub mod KernelOf
pub mod Places
pub mod Restricted
pub mod Rows
pub mod inner
