-- What a walk over the records of an older registry A and a newer one B finds, and what a look at one record finds.
use Rattle.std.specs.Prelude.{ℕ, ◌<◌, ◌≤◌, ◌==◌, ◌&&◌, Bool, true, false, List, [], ◌∷◌, length, Option, Some, None}
use Rattle.std.specs.Prelude.{All, codes}
use Rattle.std.specs.List.{list_any}
use Rattle.lt_registry.specs.Parts.{EntryParts}
use Rattle.lt_registry.specs.Same.{same_kind}
use Rattle.lt_registry.specs.declared.entries.Kind.{Kind}
use Rattle.lt_registry.specs.Entries.{letters_le, has_prefix}
use Rattle.lt_registry.specs.declared.entries.EntryName.{EntryName}
use Rattle.lt_registry.specs.declared.entries.EntryName.TheVariants as names
use Rattle.lt_upgrade.specs.Codes.{upgrade_code_of}
use Rattle.lt_upgrade.specs.Upgrade.{MeetsUpgrade, records_of, upgrade_rank_of, IsAtUpgradeFault, IsUpgradeFinding}
use Rattle.lt_upgrade.specs.declared.conditions.UpgradeCondition.{UpgradeCondition}
use Rattle.lt_upgrade.specs.declared.upgrades.UpgradeFault.{UpgradeFault}
use Rattle.lt_upgrade.specs.declared.upgrades.UpgradeFault.TheVariants as faults

-- the least number of a record that fails the condition
pub record IsFirstAtUpgradeFault (A B : List EntryParts) (condition : UpgradeCondition) (number : ℕ) : Type 0 where
  pub fault : IsAtUpgradeFault A B condition number
  pub first : (other : ℕ) → IsAtUpgradeFault A B condition other → number ≤ other

-- each record meets the condition, or this is the least number of one that fails it
abbrev pub IsLowestUpgradeFault : List EntryParts → List EntryParts → UpgradeCondition → Option ℕ → Type 0
IsLowestUpgradeFault A B condition None = All (MeetsUpgrade condition A B) (records_of condition A B)
IsLowestUpgradeFault A B condition (Some number) = IsFirstAtUpgradeFault A B condition number

-- all records meet each condition with a rank less than this
abbrev pub MeetsUpgradeBelow : ℕ → List EntryParts → List EntryParts → Type 0
MeetsUpgradeBelow rank A B =
    (other : UpgradeCondition) → upgrade_rank_of other < rank → All (MeetsUpgrade other A B) (records_of other A B)

-- the fault names what the check of an upgrade finds; OutOfMemory may be answered of any two registries
abbrev pub IsUpgradeFault : List EntryParts → List EntryParts → UpgradeFault → Type 0
IsUpgradeFault A B (faults.Fails condition number) = IsUpgradeFinding A B condition number
IsUpgradeFault A B faults.OutOfMemory = Unit {0}

-- the fault of running out of memory
abbrev pub no_upgrade_memory : UpgradeFault
no_upgrade_memory = faults.OutOfMemory

-- the name of a fault of an upgrade, as it is printed
abbrev pub upgrade_fault_name_of : UpgradeFault → List ℕ
upgrade_fault_name_of (faults.Fails condition number) = upgrade_code_of condition
upgrade_fault_name_of faults.OutOfMemory = codes "OutOfMemory"

-- ---- what a look at one record tells

-- whether a record's name is a range that holds the whole range from `first` to `last`
abbrev pub covers : EntryName → List ℕ → List ℕ → Bool
covers (names.Range low high) first last =
    (length low == length first) && (letters_le low first && letters_le last high)
covers _ first last = false

-- whether a record of the kind names a range that holds the whole range from `first` to `last`
abbrev pub some_covers : List EntryParts → Kind → List ℕ → List ℕ → Bool
some_covers R kind first last = list_any (λ (e : EntryParts). same_kind e.kind kind && covers e.name first last) R

-- whether a Prefix of one subtag is among others; a longer Prefix is no language, so the answer is true
abbrev pub is_among : List (List (List ℕ)) → List (List ℕ) → Bool
is_among others (language ∷ []) = has_prefix others language
is_among others _ = true
