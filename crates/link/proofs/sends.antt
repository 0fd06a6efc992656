pub mod Posts
pub mod Counts
pub mod Bytes
