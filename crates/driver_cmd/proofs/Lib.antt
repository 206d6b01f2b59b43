pub mod ProjectLemmas
pub mod CleanLemmas
pub mod DrivenLemmas
pub mod CommandLemmas
