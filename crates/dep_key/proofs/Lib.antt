pub mod OrderLaws
pub mod MovedLemmas
