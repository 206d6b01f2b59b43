pub mod StemsLemmas
pub mod ModuleNamesLemmas
