-- Lemmas on answering the lines of a reader.
mod FormLemmas
pub mod PartLemmas
pub mod LookLemmas
pub mod RowLemmas
mod TakenLemmas
mod EndLemmas
mod TalliedLemmas
mod KeptLemmas
pub mod TextLemmas
pub mod PieceLemmas
pub mod MarkedLemmas
mod TextRunLemmas
mod TextEndLemmas
pub mod RunLemmas
pub mod FaultLemmas
pub mod TagLemmas
