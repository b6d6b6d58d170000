-- The conditions C1 to C8 and C12, each on a record `e` of the registry `R`. A registry meets a condition if each of
-- its records does.
use Rattle.std.specs.Prelude.{ℕ, ◌≡◌, ◌≢◌, ◌<◌, ◌⊎◌, Bool, true, false, if◌then◌else◌, List, [], ◌∷◌, Option, Some}
use Rattle.std.specs.Prelude.{None, All, Contains, unwrap_or}
use Rattle.std.specs.List.{AllByRecursion}
use Rattle.lt_tag.specs.Parts.{CoreParts, TagForm, Grandfathered}
use Rattle.lt_tag.specs.Spelling.{spell_core, IsCore}
use Rattle.lt_tag.specs.Grandfathered.{IsGrandfathered}
use Rattle.lt_tag.specs.WellFormed.{IsNotGrandfathered}
use Rattle.lt_registry.specs.Parts.{EntryParts}
use Rattle.lt_registry.specs.Entries.{entry, one_of, is_registered, is_short, preferred_value, variant_value}
use Rattle.lt_registry.specs.Entries.{language_value}
use Rattle.lt_registry.specs.Validity.{IsProperCore, Distinct}
use Rattle.lt_registry.specs.declared.entries.Kind.{Kind}
use Rattle.lt_registry.specs.declared.entries.Kind.TheVariants as kinds
use Rattle.lt_registry.specs.declared.entries.EntryName.TheVariants as names
use Rattle.lt_rewrite.specs.CoreSteps.{Ends, EndsIn}

-- two records have the same kind and the same name, or, whatever their kinds, name the same whole tag (RFC 5646, 3.1.4)
abbrev pub Clash : EntryParts → EntryParts → Type 0
Clash e f = ((e.kind ≡ f.kind) × (e.name ≡ f.name))
    ⊎ ((t : TagForm) × (e.name ≡ names.Whole t) × (f.name ≡ names.Whole t))

-- No record with a lower number has the same kind and the same name, or the same whole tag (C1; RFC 5646, 3.1.4).
abbrev pub HasOwnName : List EntryParts → EntryParts → Type 0
HasOwnName R e = (f : EntryParts) → Contains R f → f.number < e.number → Clash f e → ⊥

-- the kinds whose values are of their own kind (RFC 5646, 3.1.7)
abbrev pub has_value_of_own_kind : Kind → Bool
has_value_of_own_kind kinds.Language = true
has_value_of_own_kind kinds.Script = true
has_value_of_own_kind kinds.Region = true
has_value_of_own_kind _ = false

-- If a language, script or region has a value, then that value is registered too, as the same kind (C2; RFC 5646,
-- 3.1.7).
abbrev pub HasRegisteredValue : List EntryParts → EntryParts → Type 0
HasRegisteredValue R e =
    has_value_of_own_kind e.kind ≡ true → (v : List ℕ) → one_of e.value ≡ Some v → is_registered R e.kind v ≡ true

-- the value that comes next after `s` in a chain of values of the kind: after a variant only a variant, and after an
-- extlang or a whole tag none (RFC 5646, 3.1.7)
abbrev pub next_value : List EntryParts → Kind → List ℕ → Option (List ℕ)
next_value R kinds.Variant s = variant_value R s
next_value R kind s = if has_value_of_own_kind kind then preferred_value R kind s else None

-- If a record has one subtag as its value, the chain of values that begins with this value ends (C3; RFC 5646, 3.1.7).
-- For an extlang that is no condition, since no value follows in a chain of its kind.
abbrev pub HasEndingChain : List EntryParts → EntryParts → Type 0
HasEndingChain R e = (v : List ℕ) → one_of e.value ≡ Some v → Ends (next_value R e.kind) v

-- a registered language without a value (RFC 5646, 3.1.7)
pub record IsFinalLanguage (R : List EntryParts) (l : List ℕ) : Type 0 where
  pub registered : is_registered R kinds.Language l ≡ true
  pub final : preferred_value R kinds.Language l ≡ None

-- The extlang is a single subtag, and its only Prefix is a final language. The extlang and its replacement, which is
-- its value or else itself, are registered as languages, and the chains of values from both end in the same language,
-- `end` (RFC 5646, 2.2.2).
pub record IsFittingExtlang (R : List EntryParts) (e : EntryParts) : Type 0 where
  pub subtag : List ℕ
  pub single : e.name ≡ names.Single subtag
  pub prefix : List ℕ
  pub one_prefix : e.prefixes ≡ (prefix ∷ []) ∷ []
  pub final_prefix : IsFinalLanguage R prefix
  pub registered : is_registered R kinds.Language subtag ≡ true
  pub replacement_registered : is_registered R kinds.Language (unwrap_or (one_of e.value) subtag) ≡ true
  pub end : List ℕ
  pub ends : EndsIn (preferred_value R kinds.Language) subtag end
  pub replacement_ends : EndsIn (preferred_value R kinds.Language) (unwrap_or (one_of e.value) subtag) end

-- If the record is one of an extlang, it is fitting, as `IsFittingExtlang` says (C4; RFC 5646, 2.2.2).
abbrev pub HasFittingExtlang : List EntryParts → EntryParts → Type 0
HasFittingExtlang R e = e.kind ≡ kinds.Extlang → IsFittingExtlang R e

-- If a variant has a value, that value is registered: a value of 2 or 3 letters as a language, and a longer one as a
-- variant, whose own value, if it has one, is not a language (C5; RFC 5646, 3.1.7).
abbrev pub HasFittingVariantValue : List EntryParts → EntryParts → Type 0
HasFittingVariantValue R e = e.kind ≡ kinds.Variant → (v : List ℕ) → one_of e.value ≡ Some v →
    ((is_short v ≡ true) × (is_registered R kinds.Language v ≡ true))
    ⊎ ((is_short v ≡ false) × (is_registered R kinds.Variant v ≡ true) × (language_value R v ≡ None))

-- If the value of a variant is a language, the variant has at least one Prefix, and each of its Prefixes is a single
-- subtag, a final language (C6; RFC 5646, 3.1.8).
abbrev pub HasFinalPrefixes : List EntryParts → EntryParts → Type 0
HasFinalPrefixes R e =
    e.kind ≡ kinds.Variant → (v : List ℕ) → one_of e.value ≡ Some v → is_short v ≡ true → (e.prefixes ≢ [])
    × AllByRecursion (λ (p : List (List ℕ)). (l : List ℕ) × (p ≡ l ∷ []) × IsFinalLanguage R l) e.prefixes

-- Each Prefix of a variant is a langtag without extensions and private use, and not grandfathered (C7; RFC 5646,
-- 3.1.8).
abbrev pub HasLangtagPrefixes : List EntryParts → EntryParts → Type 0
HasLangtagPrefixes R e = e.kind ≡ kinds.Variant → AllByRecursion
    (λ (p : List (List ℕ)). (c : CoreParts) × IsCore c × (spell_core c ≡ p) × IsNotGrandfathered p) e.prefixes

-- the entry of the second subtag of a core without script and region, whose extlangs and variants are given: the entry
-- of the first extlang, or else that of the first variant; None if there is neither (RFC 5646, 2.2.8)
abbrev pub second_entry : List EntryParts → List (List ℕ) → List (List ℕ) → Option EntryParts
second_entry R (x ∷ xs) vs = entry R kinds.Extlang x
second_entry R [] (v ∷ vs) = entry R kinds.Variant v
second_entry R [] [] = None

-- A grandfathered record names one of the 26 grandfathered tags (`named`). If one of these tags would be valid when
-- read as a langtag, then the record, whatever its kind, is not the entry of the tag's second subtag (`regular`). That
-- subtag would have an entry, which is then the record at fault: so if all records meet this condition, none of the 26
-- is valid as a langtag (C8; RFC 5646, 2.2.8).
pub record HasFittingGrandfathered (R : List EntryParts) (e : EntryParts) : Type 0 where
  pub named : e.kind ≡ kinds.Grandfathered → (number : ℕ) × (e.name ≡ names.Whole (Grandfathered number))
  pub regular : (c : CoreParts) (number : ℕ) → IsCore c → IsGrandfathered (spell_core c) number → IsProperCore R c →
      Distinct c.variants → second_entry R c.extlangs c.variants ≢ Some e

-- A range has no value (C12; RFC 5646, 3.1.7).
abbrev pub HasNoRangeValue : EntryParts → Type 0
HasNoRangeValue e = (first last : List ℕ) → e.name ≡ names.Range first last → e.value ≡ None

-- each record of `R` meets the conditions C1 to C6, on which core steps depend
pub record MeetsCoreConditions (R : List EntryParts) : Type 0 where
  pub names : All (HasOwnName R) R
  pub values : All (HasRegisteredValue R) R
  pub chains : All (HasEndingChain R) R
  pub extlangs : All (HasFittingExtlang R) R
  pub variants : All (HasFittingVariantValue R) R
  pub variant_languages : All (HasFinalPrefixes R) R
