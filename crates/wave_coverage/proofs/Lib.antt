pub mod UseKinds
pub mod PathLemmas
pub mod PrintLemmas
pub mod SameFiles
pub mod CoverageLemmas
