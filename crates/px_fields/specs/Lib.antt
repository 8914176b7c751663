pub mod FieldTypes
pub mod FunctionTypes
pub mod Reshape
pub mod TypeChanges
