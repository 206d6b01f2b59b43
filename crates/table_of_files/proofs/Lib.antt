pub mod PathLemmas
pub mod ModuleNameLemmas
