-- `Scanning`: texts as the loops go over them. `Digits`: the digits of a number, one by one. `FieldRules`, `NumberRules`, `HexRules`:
-- fields, numbers and bytes are read exactly if a text says them.
pub mod Scanning
pub mod FieldRules
pub mod Digits
pub mod NumberRules
pub mod HexRules
