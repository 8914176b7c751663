pub mod Wrapping
pub mod SetNumbers
pub mod RowCounts
