pub mod Seen
pub mod Notes
pub mod Own
pub mod Incoming
pub mod Replies
pub mod Strays
pub mod Flags
