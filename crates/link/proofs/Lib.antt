-- Calls by cases; the line's step in a call; what an accepted call, and a refused one, tells. Then a folder for each file of statements (specs/): `inside`, `door`,
-- `refusals`, `device`, `moves`, `verdicts`, `numbers`, `saved`, `reporting`, `same_message`, `hearing`, `sends`, `withdrawn`; and 01's numbers.
pub mod Cases
pub mod Steps
pub mod Accepted
pub mod inside
pub mod door
pub mod refusals
pub mod device
pub mod moves
pub mod verdicts
pub mod numbers
pub mod saved
pub mod reporting
pub mod same_message
pub mod Table
pub mod hearing
pub mod sends
pub mod withdrawn
