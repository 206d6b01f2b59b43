pub mod PathLemmas
pub mod RecordedLemmas
pub mod StageLemmas
pub mod BuildLemmas
pub mod NumberLemmas
