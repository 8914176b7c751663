pub mod JsonAccessLemmas
pub mod DigitLemmas
pub mod Rows
pub mod RoundTrip
pub mod Decimals
