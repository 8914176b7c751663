pub mod Optimized
