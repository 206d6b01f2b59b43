pub mod CallLemmas
pub mod ParsedLemmas
pub mod SourceLemmas
pub mod UniqueLemmas
