pub mod OptionLemmas
pub mod RepeatsLemmas
pub mod AscendingLemmas
pub mod AmongLemmas
pub mod TableLemmas
