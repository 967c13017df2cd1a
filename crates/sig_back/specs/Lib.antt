pub mod Prelude
pub mod Answers
pub mod Budgets
pub mod Faults
pub mod Shown
pub mod Reacting
