pub mod Bytes
pub mod Lent
pub mod Message
pub mod Sum
pub mod Theorems
pub mod Table
pub mod Determined
