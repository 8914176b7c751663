pub mod Matches
pub mod OperandTypes
pub mod SelectedPlaces
pub mod Casting
pub mod FusedPlaces
