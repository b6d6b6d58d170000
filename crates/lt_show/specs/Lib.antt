-- The parts of a tag, what the records of a registry say of them, and how values of JSON are written (RFC 8259).
pub mod PartKinds
pub mod Places
pub mod Listings
pub mod Rows
pub mod Fields
pub mod Tables
pub mod Reading
pub mod Kept
pub mod Strings
pub mod Values
pub mod Json
