pub mod Short
pub mod Ends
pub mod Sendable
