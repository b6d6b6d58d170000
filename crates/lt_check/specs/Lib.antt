-- The check of a registry by twelve conditions, and the subtags that stay as they are.
pub mod Codes
pub mod Conditions
pub mod WholeChecks
pub mod RegularTags
pub mod RecordChecks
pub mod NameChecks
pub mod Checking
pub mod Places
pub mod Staying
pub mod Flags
pub mod Shown
