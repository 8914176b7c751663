pub mod Broadcasts
pub mod BoundedRows
pub mod Signed
pub mod CountRows
