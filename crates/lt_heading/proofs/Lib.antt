-- Lemmas on headings.
pub mod NameLemmas
pub mod RowLemmas
pub mod TakenLemmas
mod FirstRowLemmas
mod ReadLemmas
