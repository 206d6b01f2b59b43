pub mod Exits
pub mod PartLemmas
pub mod AnswerLemmas
pub mod FileLemmas
pub mod Heads
pub mod DeclsLemmas
pub mod StatementLemmas
pub mod DeclarationLemmas
