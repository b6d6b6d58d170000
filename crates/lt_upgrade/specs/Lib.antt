-- The check of a newer registry beside an older one by six conditions.
pub mod Codes
pub mod Upgrade
pub mod UpgradeChecking
pub mod WidestRanges
pub mod Laws
