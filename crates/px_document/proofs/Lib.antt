pub mod Bytes
pub mod NoFloats
