-- What the contracts of runs over readers cite.
pub mod Faults
pub mod DeviceOutput
pub mod Running
pub mod Pieces
pub mod Lines
pub mod Lined
pub mod Texts
pub mod Begun
pub mod Tallies
