-- `Codes`: codes and blocks put into the output. `Gates`: what a call that passed refusals 1 to 3 may take for granted. `Courses`: the gate, the short
-- ways, the course. `Readings`: what is kept of a reply or of a message. `Determined`: what each public contract determines.
pub mod Codes
pub mod Gates
pub mod Courses
pub mod Readings
pub mod Determined
