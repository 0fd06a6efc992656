-- `Joining`: the calls of a line, one behind another.
pub mod Joining
