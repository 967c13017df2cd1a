pub mod Prelude
pub mod Answers
pub mod Relations
pub mod Shares
pub mod Triangles
pub mod Systems
pub mod inner
