pub mod Prelude
pub mod Acting
pub mod GoingOn
pub mod LinkEnds
pub mod Moving
pub mod States
pub mod inner
