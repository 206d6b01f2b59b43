pub mod Declarations
pub mod Spots
pub mod Providers
pub mod Found
