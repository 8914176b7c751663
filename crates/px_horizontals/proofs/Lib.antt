pub mod FoldRows
pub mod Chosen
pub mod HorizontalRows
pub mod Laws
pub mod Logic
pub mod Kernels
pub mod SumRows
