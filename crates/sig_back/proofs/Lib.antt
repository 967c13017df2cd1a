pub mod Common
mod AcceptedKernels
mod ShownNames
mod Rooms
pub use Common.*
pub use AcceptedKernels.*
pub use Rooms.*
pub use ShownNames.*
