-- What the contracts on headings cite.
pub mod Names
pub mod Headings
pub mod Finding
