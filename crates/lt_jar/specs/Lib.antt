-- The record-jar format (RFC 5646, 3.1.1): a text, its lines, its records, and what can be wrong with it.
pub mod Lines
pub mod LineKinds
pub mod Limits
pub mod Records
pub mod Faults
pub mod Reading
pub mod Views
pub mod Names
pub mod Pieces
pub mod Lending
pub mod Devices
pub mod TestDevices
pub mod Sources
pub mod LentSoFar
pub mod Lent
