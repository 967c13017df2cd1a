pub mod Common
mod BodyLemmas
mod CleanLines
mod EventLemmas
pub mod FirstLemmas
mod FirstLines
pub mod FittingFlows
pub mod FlowLemmas
pub mod InputLemmas
mod LineWords
mod Numerals
mod ShortNumbers
mod StarLemmas
mod TakenPieces
mod TruthWords
mod WrittenLines
pub use Common.*
pub use BodyLemmas.*
pub use CleanLines.*
pub use EventLemmas.*
pub use FirstLemmas.*
pub use FirstLines.*
pub use FittingFlows.*
pub use FlowLemmas.*
pub use InputLemmas.*
pub use LineWords.*
pub use Numerals.*
pub use ShortNumbers.*
pub use StarLemmas.*
pub use TakenPieces.*
pub use TruthWords.*
pub use WrittenLines.*
pub use Rattle.sig_flow.proofs.FlowLemmas.{all_read, given, refused}
