pub mod CheckLaws
pub mod ExampleLemmas
pub mod LookUpLemmas
