pub mod Shares
pub mod Turns
pub mod Reels
pub mod Trays
pub mod Lawfulness
