pub mod Denotes
pub mod Runs
pub mod Options
pub mod Lowered
