pub mod Line
pub mod Steps
pub mod Calls
pub mod Fails
pub mod Naks
