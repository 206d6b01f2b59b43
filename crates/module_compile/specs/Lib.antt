pub mod Compiled
pub mod ModuleGraph
