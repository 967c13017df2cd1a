pub mod Common
pub mod Backwards
pub mod Refusals
pub mod EachHasAKind
pub use Common.*
pub use Backwards.*
pub use EachHasAKind.*
pub use Refusals.*
