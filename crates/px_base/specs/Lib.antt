pub mod Answer
pub mod Exact
pub mod ErrorTexts
