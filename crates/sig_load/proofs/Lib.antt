pub mod Common
pub mod Each
unfoldable pub use Common.*
pub use Each.*
