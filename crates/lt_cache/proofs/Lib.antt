-- What the crates above may use is `pub`; only this crate uses the rest.
pub mod LaneLemmas
pub mod PlaceLemmas
mod EndLemmas
mod SourceLemmas
pub mod KeptEnds
mod PieceLemmas
mod KeywordEnds
mod SettledEnds
