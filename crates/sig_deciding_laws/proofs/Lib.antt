pub mod Common
mod DecidedStatements
pub mod Searchable
mod SortedLists
pub mod Tables
mod Counts
mod StandStill
mod SearchedReactions
mod Rounds
mod PinnedOrFree
mod FirstRefusal
mod ClockFunctionsOfKernel
mod Precedence
mod CyclesOrNone
mod PartsOfOperations
mod AcceptedOrRefused
mod OrderOfNumbers
mod FirstNumbers
pub mod ActorCodes
mod PlansOverStores
mod BuiltNodes
mod ClassGuards
mod KernelPlans
pub mod KernelRuns
unfoldable pub use Common.*
pub use AcceptedOrRefused.*
pub use KernelRuns.*
pub use PlansOverStores.*
