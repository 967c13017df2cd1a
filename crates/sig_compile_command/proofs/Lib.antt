pub mod Common
pub mod OneCompilation
mod Products
pub mod Complete
pub mod SomeOutcome
pub use Common.*
pub use Complete.*
pub use OneCompilation.*
pub use SomeOutcome.*
