pub mod Driven
pub mod Command
pub mod Clean
pub mod Trusted
pub mod Projects
pub mod Printed
