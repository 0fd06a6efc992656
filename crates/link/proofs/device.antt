pub mod Told
pub mod Up
pub mod Says
pub mod Remarks
