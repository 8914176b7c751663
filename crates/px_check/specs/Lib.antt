pub use Rattle.px_coercion.specs.CheckedTree
pub mod Inputs
