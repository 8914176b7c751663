pub mod CastLemmas
pub mod ColumnLemmas
pub mod Quotients
pub mod Ranges
pub mod Joins
pub mod LawLemmas
pub mod Joining
pub mod FusedRows
