pub mod ReadLemmas
pub mod PartLemmas
pub mod FieldLemmas
pub mod TellLemmas
pub mod ProviderLemmas
pub mod SettleLemmas
