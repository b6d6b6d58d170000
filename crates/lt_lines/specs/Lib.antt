-- What the contracts of a run over lines cite.
pub mod Refusals
pub mod Owed
pub mod Tallied
pub mod Looks
pub mod Answering
pub mod Marked
pub mod Reading
pub mod Running
pub mod TagLines
