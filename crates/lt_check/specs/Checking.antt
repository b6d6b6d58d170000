-- What the check of a registry computes as it walks over the records.
use Rattle.std.specs.Prelude.{ℕ, ◌≡◌, ◌+◌, ◌≤◌, ◌⊎◌, Bool, true, false, List, Option, Some, None, All}
use Rattle.lt_registry.specs.Parts.{EntryParts}
use Rattle.lt_registry.specs.declared.entries.EntryName.TheVariants as names
use Rattle.lt_registry.specs.declared.entries.Kind.TheVariants as kinds
use Rattle.lt_rewrite.specs.Shortcuts.{ShortcutParts, AreShortcuts}
use Rattle.lt_check.specs.Flags.{AreFlags}
use Rattle.lt_rewrite.specs.Conditions.{HasEndingChain, HasFinalPrefixes, HasFittingExtlang, HasFittingVariantValue}
use Rattle.lt_rewrite.specs.Conditions.{HasLangtagPrefixes, HasNoRangeValue, HasRegisteredValue}
use Rattle.lt_check.specs.Conditions.{HasValidWhole, Meets, rank_of, IsAtFault, Passes, IsFinding, IsChecked}
use Rattle.lt_check.specs.WholeChecks.{MeetsBelow}
use Rattle.lt_check.specs.declared.conditions.Condition.{Condition}
use Rattle.lt_check.specs.declared.conditions.Condition.TheVariants as conditions
use Rattle.lt_check.specs.declared.rejections.Finding.{Finding}
use Rattle.lt_check.specs.declared.rejections.RejectedCause.{RejectedCause}
use Rattle.lt_check.specs.declared.rejections.RejectedCause.TheVariants as causes

-- this is the least number of a record that fails the condition
pub record IsFirstAtFault (R : List EntryParts) (condition : Condition) (number : ℕ) : Type 0 where
  pub fault : IsAtFault R condition number
  pub first : (other : ℕ) → IsAtFault R condition other → number ≤ other

-- each record meets the condition, or the finding names the condition and the least number of a record that fails it
abbrev pub IsLowestFault : List EntryParts → Condition → Option Finding → Type 0
IsLowestFault R condition None = All (Meets condition R) R
IsLowestFault R condition (Some finding) = (finding.condition ≡ condition) × IsFirstAtFault R condition finding.number

-- whether a look at one record after another decides the condition: C1 and C8 need what was found of other records, and
-- C10 and C11 are judged together
abbrev pub is_by_record : Condition → Bool
is_by_record conditions.OwnName = false
is_by_record conditions.FittingGrandfathered = false
is_by_record conditions.RestingWhole = false
is_by_record conditions.AgreeingWhole = false
is_by_record _ = true

-- a record meets the conditions on the values of records that name subtags
pub record HasFittingValue (R : List EntryParts) (e : EntryParts) : Type 0 where
  pub registered_value : HasRegisteredValue R e
  pub ending_chain : HasEndingChain R e
  pub fitting_extlang : HasFittingExtlang R e
  pub fitting_variant_value : HasFittingVariantValue R e

-- a record meets the conditions on the Prefixes of variants
pub record HasFittingPrefixes (R : List EntryParts) (e : EntryParts) : Type 0 where
  pub final_prefixes : HasFinalPrefixes R e
  pub langtag_prefixes : HasLangtagPrefixes R e

-- a record meets each condition that a look at one record after another decides
pub record MeetsByRecord (R : List EntryParts) (e : EntryParts) : Type 0 where
  pub fitting_value : HasFittingValue R e
  pub fitting_prefixes : HasFittingPrefixes R e
  pub valid_whole : HasValidWhole R e
  pub no_range_value : HasNoRangeValue e

-- all records meet each condition that a look at one record after another decides
abbrev pub MeetByRecord : List EntryParts → Type 0
MeetByRecord R = (condition : Condition) → is_by_record condition ≡ true → All (Meets condition R) R

-- the record is of a language, a script or a region, of one subtag, and has no value
pub record IsBare (e : EntryParts) : Type 0 where
  pub kind : (e.kind ≡ kinds.Language) ⊎ ((e.kind ≡ kinds.Script) ⊎ (e.kind ≡ kinds.Region))
  pub none : e.value ≡ None
  pub subtag : List ℕ
  pub single : e.name ≡ names.Single subtag

-- each record meets each condition, or this is what the check finds
abbrev pub IsVerdict : List EntryParts → Option Finding → Type 0
IsVerdict R None = Passes R
IsVerdict R (Some finding) = IsFinding R finding.condition finding.number

-- all records meet each condition with a rank less than this, or this is what the check finds
abbrev pub IsVerdictBelow : ℕ → List EntryParts → Option Finding → Type 0
IsVerdictBelow rank R None = MeetsBelow rank R
IsVerdictBelow rank R (Some finding) = IsFinding R finding.condition finding.number

-- the rank of the condition that is judged after this one: C11 is judged along with C10, so after it comes C12
abbrev pub next_of : Condition → ℕ
next_of conditions.RestingWhole = 12
next_of condition = rank_of condition + 1

-- A rejection names a condition and a record that fails it. OutOfMemory may be answered of any registry.
abbrev pub IsCause : List EntryParts → RejectedCause → Type 0
IsCause R (causes.Finding finding) = IsAtFault R finding.condition finding.number
IsCause R causes.OutOfMemory = Unit {0}

-- A rejection names the first condition that fails, and the least number of a record that fails it. OutOfMemory may be
-- answered of any registry.
abbrev pub IsFirstCause : List EntryParts → RejectedCause → Type 0
IsFirstCause R (causes.Finding finding) = IsFinding R finding.condition finding.number
IsFirstCause R causes.OutOfMemory = Unit {0}

-- a registry that passes the check, with shortcuts along its chains of values, and flags of the subtags that stay as
-- they are
pub record IsCheckedAlong (R : List EntryParts) (shortcuts : ShortcutParts) (flags : List ℕ) : Type 0 where
  pub checked : IsChecked R
  pub along : AreShortcuts R shortcuts
  pub usual : AreFlags R flags
