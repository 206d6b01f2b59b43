pub mod ReplacingLemmas
pub mod NamesLemmas
pub mod BuildingLemmas
pub mod OutputsLemmas
pub mod OneFolderLemmas
