mod Arithmetic
mod Blocks
mod Examples
mod Expressions
pub mod Files
pub mod FreeNames
pub mod HelperAnswers
pub mod HelperBodies
pub mod Layouts
pub mod Lines
mod Numbers
mod Products
pub mod Quotients
pub mod Scanning
mod Sequences
mod Sizes
mod Statements
mod Tables
mod TypesHold
pub mod UnitTexts
mod Units
mod Variables
mod Words
