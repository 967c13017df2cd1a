pub mod Common
mod Written
pub use Common.*
pub use Written.*
