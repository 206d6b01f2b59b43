pub mod Validity
pub mod Reasons
pub mod Plans
pub mod Told
