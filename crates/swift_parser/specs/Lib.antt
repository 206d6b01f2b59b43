pub mod CanRead
pub mod Whole
