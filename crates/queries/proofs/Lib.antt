pub mod Growth
pub mod Solution
pub mod Coverage
pub mod Values
pub mod Needed
