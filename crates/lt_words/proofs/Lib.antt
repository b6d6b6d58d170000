-- Lemmas on the words of the command line.
pub mod ReadingLemmas
pub mod ValueLemmas
mod WorkedRows
