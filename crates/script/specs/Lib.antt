pub mod Hex
pub mod Command
pub mod Printed
pub mod PrintedRules
pub mod ReadingRules
pub mod Lines
pub mod Table
