pub mod Joining
pub mod Steps
pub mod IntegerTexts
pub mod Initials
pub mod LabelLemmas
pub mod SlotLemmas
