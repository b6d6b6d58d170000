-- Entries of a registry, what is found in them, and which tags are valid by them (RFC 5646, 2.2.9).
pub mod Parts
pub mod Same
pub mod Entries
pub mod Validity
pub mod Faults
pub mod Names
pub mod Checking
pub mod Records
pub mod RecordRefusals
pub mod RecordSteps
pub mod AddedRecords
pub mod Prefixes
pub mod ReadRegistry
pub mod Sorted
