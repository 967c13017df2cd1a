pub mod Common
mod Tells
mod OwnItems
mod Failures
mod Amid
mod Least
mod OrderOfSteps
mod RanksOfSteps
mod NextOwnStep
mod OwnStepsDone
mod FinalLooks
pub use Common.*
pub use FinalLooks.*
pub use OwnStepsDone.*
pub use Rattle.sig_settling_laws.proofs.OwnStepsDone.{acted}
