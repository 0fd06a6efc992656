pub mod Find
pub mod Field
pub mod Number
pub mod Hex
pub mod Theorems
