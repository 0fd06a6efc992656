-- `All` has the law of `all` over four places; `Determined`: what each public contract determines.
pub mod All
pub mod Determined
