pub mod MemoLemmas
pub mod SearchLemmas
