pub mod Prelude
pub mod Systems
pub mod BoundedLinks
pub mod Faults
pub mod Joined
