pub mod Steps
pub mod Lowerable
pub mod Refused
