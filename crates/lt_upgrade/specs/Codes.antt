-- The codes of the conditions on an upgrade, as `upgrade` prints them.
use Rattle.std.specs.Prelude.{ℕ, List, codes}
use Rattle.lt_upgrade.specs.declared.conditions.UpgradeCondition.{UpgradeCondition}
use Rattle.lt_upgrade.specs.declared.conditions.UpgradeCondition.TheVariants as upgrades

-- the code of a condition on an upgrade
abbrev pub upgrade_code_of : UpgradeCondition → List ℕ
upgrade_code_of upgrades.StaysRegistered = codes "U1"
upgrade_code_of upgrades.SameEnds = codes "U2"
upgrade_code_of upgrades.SameExtlang = codes "U3"
upgrade_code_of upgrades.SameVariantLanguage = codes "U4"
upgrade_code_of upgrades.NoNewVariantLanguage = codes "U5"
upgrade_code_of upgrades.SameWhole = codes "U6"
