pub mod Stems
pub mod ModuleNames
