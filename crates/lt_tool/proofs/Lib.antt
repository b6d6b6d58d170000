-- Lemmas on the program's calls.
pub mod AheadLemmas
pub mod ResultLemmas
pub mod TextAnswerLemmas
pub mod ExplainedLemmas
pub mod RangeLemmas
pub mod ShownLemmas
