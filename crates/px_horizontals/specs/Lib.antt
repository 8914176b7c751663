pub mod Inputs
pub mod Folds
pub mod Places
pub mod Choices
pub mod Sums
