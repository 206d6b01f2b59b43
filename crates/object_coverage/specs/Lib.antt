pub mod CodeKeys
pub mod Texts
