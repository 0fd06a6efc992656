pub mod Ranges
pub mod Rows
pub mod Answers
pub mod Start
pub mod Room
pub mod Writes
