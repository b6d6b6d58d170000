-- The conditions C9 to C11, each on a record among all; and the check of the twelve, which a registry passes if each of
-- its records meets each condition. A whole record names a whole tag. A core is alone in a langtag that has no
-- extensions and no private use. Its core normal form is where steps on it lead when no more can be made.
use Rattle.std.specs.Prelude.{ℕ, ◌≡◌, ◌≢◌, ◌<◌, ◌≤◌, ◌⊎◌, List, Some, None, All, Contains}
use Rattle.lt_tag.specs.Parts.{CoreParts, TagForm}
use Rattle.lt_registry.specs.Parts.{EntryParts}
use Rattle.lt_registry.specs.Entries.{tag_of, whole_value, IsRegistry}
use Rattle.lt_registry.specs.Validity.{IsValid, Distinct}
use Rattle.lt_registry.specs.declared.entries.Kind.TheVariants as kinds
use Rattle.lt_registry.specs.declared.entries.EntryName.TheVariants as names
use Rattle.lt_rewrite.specs.CoreSteps.{IsCoreNormalForm}
use Rattle.lt_rewrite.specs.Conditions.{HasOwnName, HasRegisteredValue, HasEndingChain, HasFittingExtlang}
use Rattle.lt_rewrite.specs.Conditions.{HasFittingVariantValue, HasFinalPrefixes, HasLangtagPrefixes}
use Rattle.lt_rewrite.specs.Conditions.{HasFittingGrandfathered, HasNoRangeValue, MeetsCoreConditions}
use Rattle.lt_check.specs.declared.conditions.Condition.{Condition}
use Rattle.lt_check.specs.declared.conditions.Condition.TheVariants as conditions
use Rattle.lt_tag.specs.Values.{core_alone}

-- if a record names a whole tag and has a tag as its value, `P` is true of the two (RFC 5646, 3.1.7)
abbrev pub OfWhole : EntryParts → (TagForm → TagForm → Type 0) → Type 0
OfWhole e P = (t u : TagForm) → e.name ≡ names.Whole t → tag_of e.value ≡ Some u → P t u

-- the tag is valid, and a core alone (RFC 5646, 2.2.9)
pub record IsValidCoreAlone (R : List EntryParts) (t : TagForm) : Type 0 where
  pub core : CoreParts
  pub is : t ≡ core_alone core
  pub valid : IsValid R t

-- If a whole record has a value, this is a valid langtag and a core alone; and so is the record's tag, if it is
-- redundant (C9; no RFC asks for that: it is a rule of this project).
abbrev pub HasValidWhole : List EntryParts → EntryParts → Type 0
HasValidWhole R e = OfWhole e (λ t u. IsValidCoreAlone R u × (e.kind ≡ kinds.Redundant → IsValidCoreAlone R t))

-- If a whole record has a value, no variant occurs twice in the core normal form of this value, and this form is not
-- the tag of a whole record with a value (C10; a rule of this project).
abbrev pub HasRestingWhole : List EntryParts → EntryParts → Type 0
HasRestingWhole R e = OfWhole e (λ t u. (c d : CoreParts) → u ≡ core_alone c → IsCoreNormalForm R c d →
    Distinct d.variants × All (λ (f : EntryParts). f.name ≡ names.Whole (core_alone d) → tag_of f.value ≡ None) R)

-- Let a tag with a value have a core normal form that is another tag. Then the value has this core normal form too; or
-- this form has a value as a whole tag, and the two values have one core normal form (C11; a rule of this project).
abbrev pub HasAgreeingWhole : List EntryParts → EntryParts → Type 0
HasAgreeingWhole R e = OfWhole e (λ t u. (c s p d : CoreParts) → t ≡ core_alone c → u ≡ core_alone p →
    IsCoreNormalForm R c s → s ≢ c → IsCoreNormalForm R p d →
    (s ≡ d) ⊎ ((q : CoreParts) × (whole_value R (core_alone s) ≡ Some (core_alone q)) × IsCoreNormalForm R q d))

-- a record meets a condition
abbrev pub Meets : Condition → List EntryParts → EntryParts → Type 0
Meets conditions.OwnName R e = HasOwnName R e
Meets conditions.RegisteredValue R e = HasRegisteredValue R e
Meets conditions.EndingChain R e = HasEndingChain R e
Meets conditions.FittingExtlang R e = HasFittingExtlang R e
Meets conditions.FittingVariantValue R e = HasFittingVariantValue R e
Meets conditions.FinalPrefixes R e = HasFinalPrefixes R e
Meets conditions.LangtagPrefixes R e = HasLangtagPrefixes R e
Meets conditions.FittingGrandfathered R e = HasFittingGrandfathered R e
Meets conditions.ValidWhole R e = HasValidWhole R e
Meets conditions.RestingWhole R e = HasRestingWhole R e
Meets conditions.AgreeingWhole R e = HasAgreeingWhole R e
Meets conditions.NoRangeValue R e = HasNoRangeValue e

-- the conditions are judged in this order
abbrev pub rank_of : Condition → ℕ
rank_of conditions.OwnName = 1
rank_of conditions.RegisteredValue = 2
rank_of conditions.EndingChain = 3
rank_of conditions.FittingExtlang = 4
rank_of conditions.FittingVariantValue = 5
rank_of conditions.FinalPrefixes = 6
rank_of conditions.LangtagPrefixes = 7
rank_of conditions.FittingGrandfathered = 8
rank_of conditions.ValidWhole = 9
rank_of conditions.RestingWhole = 10
rank_of conditions.AgreeingWhole = 11
rank_of conditions.NoRangeValue = 12

-- each record meets each of the twelve conditions, C1 to C12 (no RFC asks for them: they are rules of this project)
pub record Passes (R : List EntryParts) : Type 0 where
  pub core_conditions : MeetsCoreConditions R
  pub langtag_prefixes : All (HasLangtagPrefixes R) R
  pub fitting_grandfathered : All (HasFittingGrandfathered R) R
  pub valid_whole : All (HasValidWhole R) R
  pub resting_whole : All (HasRestingWhole R) R
  pub agreeing_whole : All (HasAgreeingWhole R) R
  pub no_range_value : All HasNoRangeValue R

-- the registry has its forms and passes the check
pub record IsChecked (R : List EntryParts) : Type 0 where
  pub registry : IsRegistry R
  pub passes : Passes R

-- a record with this number fails the condition
pub record IsAtFault (R : List EntryParts) (condition : Condition) (number : ℕ) : Type 0 where
  pub entry : EntryParts
  pub there : Contains R entry
  pub numbered : entry.number ≡ number
  pub fails : Meets condition R entry → ⊥

-- the first condition that fails, and the least number of a record that fails it
pub record IsFinding (R : List EntryParts) (condition : Condition) (number : ℕ) : Type 0 where
  pub fault : IsAtFault R condition number
  pub lower : (other : Condition) → rank_of other < rank_of condition → All (Meets other R) R
  pub first : (other : ℕ) → IsAtFault R condition other → number ≤ other
