pub mod Lines
pub mod Words
pub mod Reasons
pub mod Hex
pub mod Commands
pub mod Answers
pub mod Listing
