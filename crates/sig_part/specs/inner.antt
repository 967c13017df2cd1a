-- Definitions that no other crate cites.
pub mod Closing
pub mod Imported
pub mod Linking
pub mod Marks
pub mod Uses
