-- `Frames`: what stands where in a block.
-- `Reading`, `Writing`: what a read and a write answer, and when. `RoundTrip`: what is written reads back. `Damage`: what was
-- damaged does not. `Table`: 01's rows.
pub mod Frames
pub mod Reading
pub mod Writing
pub mod RoundTrip
pub mod Damage
pub mod Table
