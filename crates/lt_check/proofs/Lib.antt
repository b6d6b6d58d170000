-- Lemmas that the crates above use too.
pub mod CheckedRegistry
pub mod Deciding
pub mod RecordChecks
pub mod FirstFaults
pub mod OwnNames
-- Lemmas that only this crate uses.
mod WholeRecords
mod RegularLists
mod SeenRanges
mod Judging
mod TextLemmas
mod CutLemmas
mod FlagLemmas
