pub mod Prelude
pub mod ActorMachines
pub mod Following
pub mod Instants
pub mod Lowerings
pub mod Machines
pub mod inner
