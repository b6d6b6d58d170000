-- Lemmas on runs over readers: devices, pieces, lines, texts with a byte order mark, and tallies.
pub mod DeviceLemmas
pub mod ReadLemmas
pub mod PartLemmas
mod RunLemmas
mod LinedLemmas
mod LineRunLemmas
mod TextLemmas
mod TextRunLemmas
pub mod TallyLemmas
