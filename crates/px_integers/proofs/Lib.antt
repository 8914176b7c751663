pub mod FloorDivision
pub mod Residues
