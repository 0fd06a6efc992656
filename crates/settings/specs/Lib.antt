pub mod Panel
pub mod Timer
pub mod Limits
pub mod Terms
pub mod Theorems
