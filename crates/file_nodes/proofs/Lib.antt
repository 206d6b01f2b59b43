pub mod UseLemmas
pub mod EnteredLemmas
pub mod OwnLemmas
pub mod AmongLemmas
pub mod OrderLemmas
pub mod NodeLemmas
