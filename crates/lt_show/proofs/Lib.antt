-- Lemmas on what is read and shown.
pub mod ValueLemmas
pub mod ChainLemmas
-- What only this crate uses.
mod StringLemmas
mod PlaceLemmas
mod KindLemmas
mod SpellLemmas
mod KeptLemmas
mod NeededLemmas
mod RowLemmas
mod TableLemmas
mod JsonLemmas
