-- `Building`: the four writes of a block. `Determined`: what each public contract determines.
pub mod Building
pub mod Determined
