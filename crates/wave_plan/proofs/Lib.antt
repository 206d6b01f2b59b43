pub mod AnswerLemmas
pub mod SetLemmas
pub mod MapLemmas
pub mod OrderLemmas
pub mod PlanLemmas
pub mod Judgements
