pub mod Memos
pub mod Search
