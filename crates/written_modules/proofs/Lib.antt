pub mod WordLemmas
pub mod LeafLemmas
pub mod TreeLemmas
pub mod ParsedLemmas
