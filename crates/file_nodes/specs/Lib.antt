pub mod Graphs
pub mod Own
pub mod Laws
