pub mod Prelude
pub mod Codes
pub mod Guards
pub mod Instants
pub mod Instructions
pub mod Opcodes
pub mod Rows
pub mod inner
