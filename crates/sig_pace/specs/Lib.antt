pub mod Prelude
pub mod Answers
pub mod MaximalClocks
pub mod Paced
pub mod Refusals
pub mod Renumbering
pub mod Restriction
pub mod inner
