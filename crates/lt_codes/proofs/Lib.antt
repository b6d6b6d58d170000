-- Lemmas on tables of codes.
pub mod LetterLemmas
pub mod FindLemmas
pub mod IndexLemmas
pub mod SplitLemmas
pub mod RowLemmas
pub mod TableLemmas
pub mod TextLemmas
