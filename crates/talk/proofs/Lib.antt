-- `Listing`: 01's listing, each command at work, and requests 1 and 2 of 02. `Lines`: what each line does, over all lines. `Each`: one is
-- printed for each of them. `Reached`: the unit of bench is one that was started, and of which calls were made since. `Started`: from which
-- line on there is one. `Due`: the reports that ticks can still bring about. `Output`: what a line puts out has room.
pub mod Listing
pub mod Lines
pub mod Each
pub mod Reached
pub mod Started
pub mod Due
pub mod Output
