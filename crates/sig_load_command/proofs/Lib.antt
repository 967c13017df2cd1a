pub mod Common
pub mod Complete
pub mod OneLoad
pub mod Stopped
mod Counted
pub use Common.*
pub use Complete.*
pub use Counted.*
pub use OneLoad.*
pub use Stopped.*
