-- Lemmas on rows of text.
pub mod SplitLemmas
pub mod NearLemmas
pub mod LaneLemmas
pub mod RowLemmas
pub mod StopLemmas
pub mod FieldLemmas
pub mod PlainLemmas
pub mod LookLemmas
pub mod MarkLemmas
pub mod GrammarLemmas
pub mod RecordLemmas
