pub mod BroadcastRows
pub mod TestRows
pub mod KernelRows
pub mod Negations
pub mod SelectionRows
pub mod DividedRows
pub mod CastRows
pub mod FormRows
