pub mod Choices
pub mod Reductions
