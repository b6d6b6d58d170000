-- Lemmas on canonical tags; `pub` are those that crates above may use.
pub mod EndForms
pub mod TagForm
pub mod Distinctness
pub mod TagRepeats
pub mod RepeatedVariants
pub mod CanonicalForms
mod UsualForms
mod TraceLemmas
pub mod StayingTags
pub mod TextRefusals
pub mod LinesLeft
