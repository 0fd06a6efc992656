pub mod Courier
pub mod Bytes
pub mod OneCall
pub mod Right
pub mod Limits
pub mod Ticks
