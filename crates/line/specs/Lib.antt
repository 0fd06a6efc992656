pub mod Codes
pub mod Line
pub mod Range
pub mod History
pub mod Theorems
pub mod Rules
pub mod Table
