-- `Silent`: where there is nothing to report, and where there is. `Determined`: what each public contract determines.
pub mod Silent
pub mod Determined
