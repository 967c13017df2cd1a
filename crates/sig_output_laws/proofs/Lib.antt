pub mod Common
pub mod Written
pub mod Begins
pub mod PutOut
pub mod Ahead
pub mod EndedActors
pub mod Outputs
unfoldable pub use Common.*
pub use Outputs.*
