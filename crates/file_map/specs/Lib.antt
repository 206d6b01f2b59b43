pub mod Kinds
pub mod Repeated
pub mod Reading
pub mod Table
pub mod Assigned
