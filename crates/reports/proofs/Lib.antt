-- `Slots`: a list read slot by slot. `Waiting`: what is proved of those that wait. `Determined`: what each public contract determines.
pub mod Slots
pub mod Waiting
pub mod Determined
