pub mod Repeats
pub mod Ascending
pub mod Among
