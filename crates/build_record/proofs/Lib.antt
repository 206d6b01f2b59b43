pub mod RecordLemmas
pub mod SourcesLemmas
pub mod ReadBackLemmas
