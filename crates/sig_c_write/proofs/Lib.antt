pub mod BlockGuards
mod Bodies
pub mod Chains
pub mod GuardParts
mod ImageTexts
pub mod JoinedLines
mod Laid
pub mod Numbered
pub mod OpsLoop
