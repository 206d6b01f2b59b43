pub mod Layouts
pub mod Pieces
pub mod Emission
pub mod IntegerText
pub mod Printing
pub mod Objects
pub mod Laws
