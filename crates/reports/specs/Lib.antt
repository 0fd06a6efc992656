pub mod Reports
pub mod Theorems
