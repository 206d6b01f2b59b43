pub mod Callees
pub mod CanCheck
pub mod Fronts
