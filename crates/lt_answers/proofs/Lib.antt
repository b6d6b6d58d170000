-- Lemmas on objects, on selecting lines, and on judging an explanation.
mod SourceLemmas
mod ExtensionLemmas
mod ObjectLemmas
mod AnsweringLemmas
mod SelectionLemmas
mod MatchedLemmas
mod SelectingLemmas
mod ClosestLemmas
mod LookingLemmas
mod SearchLemmas
mod ServedLemmas
mod LineLemmas
mod JudgingLemmas
mod FollowingLemmas
