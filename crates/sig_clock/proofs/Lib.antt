pub mod Common
pub mod LinkLemmas
pub mod SameClockLemmas
pub mod ConditionLemmas
pub mod LayerLemmas
pub mod ReactionLemmas
pub mod ProposalLemmas
pub mod AbstractLemmas
pub mod OnceLemmas
pub mod Ordered
unfoldable pub use Common.*
pub use AbstractLemmas.*
pub use ConditionLemmas.*
pub use LayerLemmas.*
pub use LinkLemmas.*
pub use ProposalLemmas.*
pub use ReactionLemmas.*
pub use SameClockLemmas.*
