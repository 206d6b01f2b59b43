pub mod AscendingLemmas
