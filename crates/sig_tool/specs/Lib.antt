pub mod Prelude
pub mod Commands
pub mod Complete
pub mod TopCall
pub mod Headline
