-- `Short`: where nothing is due the reports change nothing. `Places`: what a walk over the places has come to. `Determined`: what each
-- public contract determines.
pub mod Short
pub mod Places
pub mod Determined
