pub mod Builds
pub mod Complete
pub mod ExecEnds
pub mod Execs
pub mod ImageFiles
