-- `Digits`: a number in decimal. `Printing`: bytes put one behind another, the sizes of a line's fields, and bytes in hex. `Fields`: what a line's fields say.
-- `PrintedRules`: what is printed reads back, and is one line. `ReadingRules`: what is printed for a number reads back. `Lines`: a line is
-- read exactly if it is one of 01's, and one that can't be read leaves the lent memory. `Written`: orders written and read back. `Table`:
-- 01's commands and the limits of their numbers.
pub mod Digits
pub mod Printing
pub mod Fields
pub mod PrintedRules
pub mod ReadingRules
pub mod Lines
pub mod Written
pub mod Table
