pub mod Over
pub mod Master
pub mod Alone
