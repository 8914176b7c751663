pub mod FieldLemmas
pub mod ReshapeLemmas
