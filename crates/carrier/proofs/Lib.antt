pub mod Bagging
