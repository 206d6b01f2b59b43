pub mod Extensions
pub mod Members
pub mod OwnTypes
pub mod Runs
pub mod Sites
pub mod StructSizes
