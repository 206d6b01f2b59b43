pub mod BlockLemmas
pub mod FileLemmas
pub mod FunctionLemmas
pub mod LocalLemmas
pub mod Making
pub mod Reaching
pub mod Rows
pub mod TargetLemmas
