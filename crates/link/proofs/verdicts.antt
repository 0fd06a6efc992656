pub mod Back
pub mod Released
pub mod Taken
pub mod Own
pub mod Messages
pub mod Replies
pub mod Readings
