pub mod Bags
pub mod Faults
pub mod Meaning
pub mod Stations
pub mod Walls
pub mod PutBack
