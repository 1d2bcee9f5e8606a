pub mod Sharing
pub mod Carrying
