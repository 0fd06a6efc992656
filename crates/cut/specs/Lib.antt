pub mod Blocks
pub mod Theorems
pub mod Table
