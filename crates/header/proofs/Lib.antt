-- `Headers`: a header's fields and its ten bytes are each the other's. `Table`: the headers of 01's listing. `Determined`:
-- what each public contract determines.
pub mod Headers
pub mod Table
pub mod Determined
