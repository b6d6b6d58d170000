pub mod AsBox
pub mod Refusals
pub mod Fronts
pub mod KindNumbers
pub mod PartKindNumbers
pub mod MatchAnswers
pub mod Replaced
pub mod Locales
