pub mod Kept
pub mod Given
pub mod Distinct
