pub mod Checks
pub mod Laws
pub mod Logs
pub mod OwnKeys
pub mod Strictness
