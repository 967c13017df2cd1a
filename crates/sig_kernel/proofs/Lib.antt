pub mod Common
pub mod DelayLemmas
pub mod FitLemmas
pub mod RangeLemmas
pub mod TableLemmas
pub mod TextLemmas
pub mod TraceLemmas
pub mod ValidLemmas
pub mod ValueLemmas
unfoldable pub use Common.*
pub use DelayLemmas.*
pub use FitLemmas.*
pub use RangeLemmas.*
pub use TableLemmas.*
pub use TextLemmas.*
pub use TraceLemmas.*
pub use ValidLemmas.*
pub use ValueLemmas.*
