pub mod Forms
pub mod Faults
pub mod Whole
pub mod Levels
pub mod Shows
pub mod Tests
pub mod Laws
