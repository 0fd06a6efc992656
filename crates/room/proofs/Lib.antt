-- `Areas`: where the areas lie, and what lies in the room. `Keeping`, `Reading`: what a keep leaves and what a read gives.
pub mod Areas
pub mod Keeping
pub mod Reading
