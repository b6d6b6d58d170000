-- Canonical tags and their texts, equivalence, the extlang form and explanations (RFC 5646, 4.5), with their laws.
pub mod Answers
pub mod Refusals
pub mod Names
pub mod Settled
pub mod Texts
pub mod TextAnswers
pub mod Equivalence
pub mod ExtlangForm
pub mod Laws
pub mod Corollaries
pub mod TraceLaws
-- the law that a refusal for a repeated variant names one variant, and only one
pub mod RepeatLaws
pub mod ExtlangLaws
pub mod Traces
pub mod Explaining
pub mod ExplanationTexts
pub mod UsualTags
