pub mod JsonAccess
pub mod Digits
pub mod Names
pub mod Column
pub mod Built
