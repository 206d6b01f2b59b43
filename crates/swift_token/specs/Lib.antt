pub mod Texts
pub mod Spelling
pub mod Trivia
pub mod Faults
pub mod Scans
pub mod NextLexeme
pub mod Positions
