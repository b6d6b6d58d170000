-- Codes of languages, and the tables of them.
pub mod Names
pub mod Codes
pub mod Index
pub mod Rows
pub mod Tables
pub mod Reading
pub mod Adding
