pub mod Prelude
pub mod OwnSteps
pub mod Settled
