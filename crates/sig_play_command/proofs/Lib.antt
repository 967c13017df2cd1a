pub mod Common
mod Committed
pub mod Complete
pub mod EndOfPlay
mod EventLines
mod StaysCommitted
mod Happened
mod LinesInARow
mod Loads
mod Missing
pub mod OnePlay
mod TakenOfPlay
mod SamePlans
mod StateTaken
mod Written
pub use Common.*
pub use Complete.*
pub use EventLines.*
pub use Happened.*
pub use LinesInARow.*
pub use Loads.*
pub use Missing.*
pub use OnePlay.*
pub use StateTaken.*
pub use TakenOfPlay.*
pub use Written.*
