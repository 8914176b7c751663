pub mod Framed
pub mod KernelRows
pub mod SameRows
mod Sample
