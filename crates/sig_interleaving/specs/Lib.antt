pub mod Prelude
pub mod Cores
pub mod Finishing
pub mod Lists
pub mod Schedules
pub mod Telling
pub mod inner
