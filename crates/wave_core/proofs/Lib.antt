pub mod WakingLemmas
pub mod FinishLemmas
pub mod OpeningLemmas
pub mod RunLemmas
