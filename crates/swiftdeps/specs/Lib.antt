pub mod Collected
pub mod Fronts
pub mod Judging
pub mod Shown
pub mod Spelling
pub mod Stages
pub mod Streams
pub mod Written
