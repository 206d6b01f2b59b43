pub mod MemSources
pub mod Sources
pub mod Disk
pub mod Failures
pub mod Tree
pub mod Sink
