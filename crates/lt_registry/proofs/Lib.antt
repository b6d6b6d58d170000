pub mod CoreFaultLemmas
pub mod DistinctTests
pub mod EqualityLemmas
mod FieldLemmas
mod FoundLemmas
pub mod ListLemmas
pub mod OrderLemmas
pub mod ReadingLaws
mod RecordTexts
mod RecordLaws
mod EntryLaws
mod NumberLemmas
mod SortedLemmas
mod IndexLemmas
mod SpanLemmas
mod RangeLemmas
pub mod SplitListLemmas
pub mod TagFaultLemmas
pub mod ValidityLaws
pub mod VariantFaultLemmas
