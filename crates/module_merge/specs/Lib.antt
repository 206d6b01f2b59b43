pub mod Lines
pub mod ByPath
pub mod Module
pub mod Object
pub mod Image
pub mod Ends
pub mod Laws
