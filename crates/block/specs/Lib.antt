pub mod Refusal
pub mod Block
pub mod Theorems
pub mod Table
