pub mod Common
pub mod LongerLists
pub mod FirstPlaces
pub mod Scopes
pub mod Trees
unfoldable pub use Common.*
pub use FirstPlaces.*
pub use LongerLists.*
pub use Scopes.*
pub use Trees.*
