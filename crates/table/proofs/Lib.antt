-- `Fours` has the laws of lists of four, `Firsts` those of `specs/Find.antt`, `Numbers` those of `specs/Number.antt`. `Tables`,
-- `Finding` and `Giving` prove `specs/Theorems.antt`.
pub mod Fours
pub mod Firsts
pub mod Numbers
pub mod Tables
pub mod Finding
pub mod Giving
