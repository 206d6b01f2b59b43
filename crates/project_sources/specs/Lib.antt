pub mod Calls
pub mod Parsed
pub mod Refusals
pub mod Reading
pub mod Laws
