pub mod Common
pub mod Rests
pub mod RunByInstants
pub use Common.*
pub use RunByInstants.*
