pub mod Optimizes
pub mod Shared
