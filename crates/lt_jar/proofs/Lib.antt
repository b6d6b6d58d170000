-- Lemmas on the definitions of the format.
pub mod CutLemmas
pub mod PlaceLemmas
pub mod NameLemmas
pub mod WordLemmas
pub mod TrimLemmas
pub mod GroupLemmas
pub mod ReadLemmas
pub mod TurnLemmas
mod ReadingLemmas
pub mod SourceLemmas
pub mod TestDeviceLemmas
pub mod LentLemmas
pub mod RestLemmas
pub mod WorkedRows
