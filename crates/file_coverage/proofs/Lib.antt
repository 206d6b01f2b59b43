pub mod StatementLemmas
pub mod Asking
pub mod DeclarationLemmas
pub mod FileLemmas
