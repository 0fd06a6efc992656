-- `Choice`: a choice on a test. `Parts`: a part of a list. `Lent`: bytes put into lent memory. `Numbers`: a number and its bytes are each the other's.
-- `Sums`: the laws of the checksum. `Table`: 01's rows. `Determined`: what each public contract determines.
pub mod Choice
pub mod Parts
pub mod Lent
pub mod Numbers
pub mod Sums
pub mod Table
pub mod Determined
