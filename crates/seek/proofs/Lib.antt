-- `Positions` has what `position` finds; `Determined`: what each public contract determines.
pub mod Positions
pub mod Determined
