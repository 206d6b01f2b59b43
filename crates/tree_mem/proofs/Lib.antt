pub mod Changes
pub mod Entries
pub mod FailureLemmas
pub mod Filters
pub mod Plain
pub mod Sorted
pub mod SourceLemmas
