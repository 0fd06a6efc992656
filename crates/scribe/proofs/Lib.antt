-- `Commanding`: a line as a command. `Determined`: what each public contract determines.
pub mod Commanding
pub mod Determined
