pub mod Wanted
pub mod CleanFolder
pub mod Outputs
pub mod Results
pub mod Building
pub mod Replacing
pub mod Laws
