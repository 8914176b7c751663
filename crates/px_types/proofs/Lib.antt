pub mod Residues
pub mod CommonTypes
pub mod RepeatedNames
pub mod SchemaLemmas
pub mod SupertypeLemmas
pub mod Wrapping
