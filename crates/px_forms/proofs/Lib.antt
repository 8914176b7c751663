pub mod Forms
pub mod Trees
pub mod HasForms
pub mod Exprs
pub mod NoFloats
pub mod RoundTrip
pub mod Literals
