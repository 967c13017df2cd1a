pub mod Common
pub mod CallsByPlace
pub mod FallingRanks
pub mod CallWalks
pub use Common.*
pub use CallWalks.*
pub use CallsByPlace.*
pub use FallingRanks.*
