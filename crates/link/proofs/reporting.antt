pub mod Kept
pub mod Silent
pub mod Leaves
pub mod Lost
pub mod Names
