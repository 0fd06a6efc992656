-- `Retrying`: the laws of a retry. `Cases`: all that a byte, a tick and settling can do at a phase. `Arrivals`: a block that comes
-- in, byte by byte. `Invariant`: what one call leaves of a line and of what its onlooker has seen. `Always`: any calls. From these
-- `Sending`, `Receiving`, `Holding`, `Busy` and `Ranges` have the theorems over all calls. `Alone`: what a step can tell. `Rules`:
-- what each phase does. `Table`: closed runs. `Determined`: what each public contract determines.
pub mod Retrying
pub mod Cases
pub mod Arrivals
pub mod Invariant
pub mod Always
pub mod Sending
pub mod Receiving
pub mod Holding
pub mod Busy
pub mod Alone
pub mod Ranges
pub mod Rules
pub mod Table
pub mod Determined
