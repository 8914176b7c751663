pub mod ColumnOf
pub mod FrameOf
pub mod Values
pub mod HashInput
pub mod Buffers
