-- `Determined`: what each public contract determines.
pub mod Determined
