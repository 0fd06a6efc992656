-- `Counts`: how many blocks a message makes. `Cutting`: their numbers, headers and parts. `Table`: 01's rows. `Determined`:
-- what each public contract determines.
pub mod Counts
pub mod Cutting
pub mod Table
pub mod Determined
