-- `Panels`: 01's table of settings. `Timers`: the laws of a timer. `Taking`, `Agreeing`: which settings are taken. `Determined`:
-- what each public contract determines.
pub mod Panels
pub mod Timers
pub mod Taking
pub mod Agreeing
pub mod Determined
