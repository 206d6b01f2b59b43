pub mod Prints
pub mod Nodes
pub mod Partials
pub mod Places
pub mod Coverage
pub mod Laws
pub mod Examples
