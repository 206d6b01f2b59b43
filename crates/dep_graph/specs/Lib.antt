pub mod Moves
pub mod Arcs
