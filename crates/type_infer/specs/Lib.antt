pub mod Readings
pub mod Meanings
pub mod Kinds
pub mod Plain
pub mod Sound
pub mod Laws
pub mod Demand
