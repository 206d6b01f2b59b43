pub mod PlaceLemmas
pub mod Cuts
pub mod PrintTypes
pub mod PrintLaws
pub mod Covering
pub mod FileNodes
pub mod Covered
pub mod Worked
