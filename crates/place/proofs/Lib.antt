-- `Messages`: the laws of a message and of what becomes of its blocks. `Judging`: a block is judged as 01 says. `Tests`: what is asked of a place is what it
-- shows. `Arrivals`: a message that
-- is arriving, against its onlooker; both invariants rest on it.
-- `IncomingInvariant`: what holds of an incoming place after any events; from it `Completing` has its theorems. `Table`: 01's
-- numbers of verdicts.
pub mod Messages
pub mod Judging
pub mod Tests
pub mod Ranges
pub mod Arrivals
pub mod IncomingInvariant
pub mod Completing
pub mod OwnInvariant
pub mod OwnAlways
pub mod Blocks
pub mod Verdicts
pub mod Falling
pub mod OwnRanges
pub mod Table
