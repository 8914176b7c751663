pub mod Document
pub mod Report
