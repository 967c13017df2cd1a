pub mod Common
mod OneOutcome
mod CommandWords
mod TopClauses
mod Complete
mod AtPaces
mod Sentence
pub use Common.*
pub use CommandWords.*
pub use Complete.*
pub use Sentence.*
pub use TopClauses.*
