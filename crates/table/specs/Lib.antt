pub mod Find
pub mod Own
pub mod Incoming
pub mod Number
pub mod Theorems
