-- `Determined`: what each public contract determines. `Finding`: a byte looked for.
pub mod Determined
pub mod Finding
