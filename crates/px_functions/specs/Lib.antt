pub mod SmallTypes
pub mod Texts
pub mod Evaluated
