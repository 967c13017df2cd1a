pub mod Flows
pub mod Program
pub mod Tally
pub mod inner
