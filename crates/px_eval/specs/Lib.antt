pub mod Table
pub mod Own
pub mod Order
pub mod Fills
pub mod Answers
pub mod Evaluated
pub mod Selected
