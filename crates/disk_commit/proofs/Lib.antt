pub mod Folder
pub mod Names
pub mod RunLemmas
pub mod ChangeLemmas
