-- Lemmas that only this crate uses.
mod RangeCoverage
mod UpgradeChecks
mod UpgradeLaws
