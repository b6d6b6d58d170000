-- What the crates that use this one may use.
pub mod Stars
pub mod NormalForms
pub mod PartLists
pub mod Chains
pub mod Entries
pub mod Forms
pub mod NameForms
pub mod Same
pub mod FirstSteps
mod ListSteps
pub mod CoreSteps
pub mod CoreForms
mod CoreSettling
mod CoreLaws
pub mod PartForms
pub mod ExtensionForms
pub mod KeysRise
mod ExtensionLaws
pub mod ProperTags
pub mod StepLaws
-- What only this crate uses.
mod Sorting
mod PartSorting
mod OrderingRows
mod ChainWalks
mod ShortcutWalks
mod VariantPlaces
mod CoreLeading
mod ExtensionLeading
mod TagLeading
mod PartRuns
mod ExtensionRuns
