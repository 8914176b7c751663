pub mod Bitmaps
pub mod Lanes
pub mod Counts
pub mod Entries
pub mod BooleanRows
pub mod StringRows
pub mod StringDataLemmas
