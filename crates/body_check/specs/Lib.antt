pub mod Blocks
pub mod Declarations
pub mod Files
pub mod Statements
pub mod Targets
