pub mod Found
pub mod CheckedTree
