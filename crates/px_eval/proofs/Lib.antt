pub mod Lists
pub mod Ordering
pub mod Fills
pub mod Kernels
pub mod Single
pub mod Columns
pub mod Selects
