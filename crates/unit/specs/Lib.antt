pub mod Put
pub mod Settle
pub mod Short
