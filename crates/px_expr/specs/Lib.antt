pub mod Tree
pub mod Kernel
pub mod Plan
pub mod Options
