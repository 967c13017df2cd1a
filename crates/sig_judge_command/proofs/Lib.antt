pub mod Common
pub mod OneVerdict
mod SomeVerdict
mod JudgeFiles
pub use Common.*
pub use JudgeFiles.*
pub use OneVerdict.*
pub use SomeVerdict.*
