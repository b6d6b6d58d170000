-- The six conditions on an upgrade from an older registry A to a newer one B: the fifth on each record of B, the others
-- on each record of A. The chain of a subtag goes to its value, to the value of that, and so on, to its end. The
-- replacement of an extlang is its value, or else the extlang.
use Rattle.std.specs.Prelude.{ℕ, ◌≡◌, ◌<◌, ◌≤◌, true, false, List, Option, Some, All, Contains, length, unwrap_or}
use Rattle.lt_tag.specs.Parts.{TagForm}
use Rattle.lt_registry.specs.Parts.{EntryParts}
use Rattle.lt_registry.specs.Entries.{one_of, entry, preferred_value, language_value, is_registered, is_short, prefixes}
use Rattle.lt_registry.specs.Entries.{has_prefix, letters_le}
use Rattle.lt_registry.specs.declared.entries.Kind.{Kind}
use Rattle.lt_registry.specs.declared.entries.Kind.TheVariants as kinds
use Rattle.lt_registry.specs.declared.entries.EntryName.TheVariants as names
use Rattle.lt_rewrite.specs.CoreSteps.{EndsIn}
use Rattle.lt_rewrite.specs.Conditions.{next_value}
use Rattle.lt_rewrite.specs.TagSteps.{IsCanonical, IsReached}
use Rattle.lt_check.specs.Conditions.{OfWhole}
use Rattle.lt_upgrade.specs.declared.conditions.UpgradeCondition.{UpgradeCondition}
use Rattle.lt_upgrade.specs.declared.conditions.UpgradeCondition.TheVariants as upgrades

-- by the values that `next` gives, the chains from `s` and from `t` end in one subtag
pub record SameEnd (next : List ℕ → Option (List ℕ)) (s t : List ℕ) : Type 0 where
  pub end : List ℕ
  pub left : EndsIn next s end
  pub right : EndsIn next t end

-- the newer registry has a range of this kind that holds the whole range from `first` to `last`
pub record IsCovered (B : List EntryParts) (kind : Kind) (first last : List ℕ) : Type 0 where
  pub entry : EntryParts
  pub there : Contains B entry
  pub of_kind : entry.kind ≡ kind
  pub low : List ℕ
  pub high : List ℕ
  pub range : entry.name ≡ names.Range low high
  pub one_length : length low ≡ length first
  pub from : letters_le low first ≡ true
  pub to : letters_le last high ≡ true

-- what a record of the older registry names is registered in the newer one (U1)
pub record StaysRegistered (B : List EntryParts) (e : EntryParts) : Type 0 where
  pub single : (s : List ℕ) → e.name ≡ names.Single s → is_registered B e.kind s ≡ true
  pub range : (first last : List ℕ) → e.name ≡ names.Range first last → IsCovered B e.kind first last

-- the value `v` of a record of this kind is a subtag of the same kind, so that a chain of values goes on with it
abbrev pub KeepsKind : Kind → List ℕ → Type 0
KeepsKind kinds.Language v = Unit {0}
KeepsKind kinds.Extlang v = ⊥
KeepsKind kinds.Script v = Unit {0}
KeepsKind kinds.Region v = Unit {0}
KeepsKind kinds.Variant v = is_short v ≡ false
KeepsKind kinds.Grandfathered v = ⊥
KeepsKind kinds.Redundant v = ⊥

-- by the newer registry, the chains of values from a subtag of the older registry and from the value that it has there,
-- if that is of the same kind, end in one subtag (U2)
abbrev pub KeepsEnds : List EntryParts → EntryParts → Type 0
KeepsEnds B e =
    (s v : List ℕ) → e.name ≡ names.Single s → one_of e.value ≡ Some v
    → KeepsKind e.kind v → SameEnd (next_value B e.kind) s v

-- The newer registry has the extlang `s`, which the record `e` of the older one names, with the same Prefix. The chains
-- from its older and from its newer replacement end in one language.
pub record IsSameExtlang (B : List EntryParts) (e : EntryParts) (s : List ℕ) : Type 0 where
  pub newer : EntryParts
  pub there : entry B kinds.Extlang s ≡ Some newer
  pub prefixes : newer.prefixes ≡ e.prefixes
  pub ends : SameEnd (preferred_value B kinds.Language)
      (unwrap_or (one_of e.value) s) (unwrap_or (one_of newer.value) s)

-- an extlang of the older registry keeps its Prefix, and the end of the chain from its replacement (U3)
abbrev pub KeepsExtlang : List EntryParts → EntryParts → Type 0
KeepsExtlang B e = (s : List ℕ) → e.kind ≡ kinds.Extlang → e.name ≡ names.Single s → IsSameExtlang B e s

-- In the newer registry the variant `s`, which the record `e` of the older one names, has a language as its value. The
-- chain of this language ends as that of the older value `v`, and the Prefixes are of the same languages.
pub record IsSameVariantLanguage (B : List EntryParts) (e : EntryParts) (s v : List ℕ) : Type 0 where
  pub newer : List ℕ
  pub has : language_value B s ≡ Some newer
  pub prefixes : (l : List ℕ) → has_prefix (prefixes B kinds.Variant s) l ≡ has_prefix e.prefixes l
  pub ends : SameEnd (preferred_value B kinds.Language) v newer

-- a variant of the older registry whose value is a language keeps a language of the same end, and its Prefixes (U4)
abbrev pub KeepsVariantLanguage : List EntryParts → EntryParts → Type 0
KeepsVariantLanguage B e =
    (s v : List ℕ) → e.kind ≡ kinds.Variant → e.name ≡ names.Single s → one_of e.value ≡ Some v → is_short v ≡ true →
    IsSameVariantLanguage B e s v

-- A variant of the newer registry whose value is a language has a language as its value in the older one too, if it is
-- registered there (U5). It asks nothing of ranges, since they have no value in a registry that passes the check.
abbrev pub HadVariantLanguage : List EntryParts → EntryParts → Type 0
HadVariantLanguage A e =
    (s v : List ℕ) → e.kind ≡ kinds.Variant → e.name ≡ names.Single s → one_of e.value ≡ Some v → is_short v ≡ true →
    is_registered A kinds.Variant s ≡ true → (w : List ℕ) × (language_value A s ≡ Some w)

-- one canonical tag is reached from both `t` and `u`
pub record MeetInCanonical (B : List EntryParts) (t u : TagForm) : Type 0 where
  pub tag : TagForm
  pub canonical : IsCanonical B tag
  pub left : IsReached B t tag
  pub right : IsReached B u tag

-- by the newer registry, a whole tag of the older one and its older value reach one canonical tag (U6)
abbrev pub KeepsWhole : List EntryParts → EntryParts → Type 0
KeepsWhole B e = OfWhole e (MeetInCanonical B)

-- the record `e` meets a condition on an upgrade from `A` to `B`
abbrev pub MeetsUpgrade : UpgradeCondition → List EntryParts → List EntryParts → EntryParts → Type 0
MeetsUpgrade upgrades.StaysRegistered A B e = StaysRegistered B e
MeetsUpgrade upgrades.SameEnds A B e = KeepsEnds B e
MeetsUpgrade upgrades.SameExtlang A B e = KeepsExtlang B e
MeetsUpgrade upgrades.SameVariantLanguage A B e = KeepsVariantLanguage B e
MeetsUpgrade upgrades.NoNewVariantLanguage A B e = HadVariantLanguage A e
MeetsUpgrade upgrades.SameWhole A B e = KeepsWhole B e

-- the records that a condition is on: those of the newer registry B for U5, else those of the older registry A
abbrev pub records_of : UpgradeCondition → List EntryParts → List EntryParts → List EntryParts
records_of upgrades.NoNewVariantLanguage A B = B
records_of _ A B = A

-- B upgrades A: for each of the six conditions, all records that it is on meet it
abbrev pub Upgrades : List EntryParts → List EntryParts → Type 0
Upgrades A B = (condition : UpgradeCondition) → All (MeetsUpgrade condition A B) (records_of condition A B)

-- the order in which the conditions are judged
abbrev pub upgrade_rank_of : UpgradeCondition → ℕ
upgrade_rank_of upgrades.StaysRegistered = 1
upgrade_rank_of upgrades.SameEnds = 2
upgrade_rank_of upgrades.SameExtlang = 3
upgrade_rank_of upgrades.SameVariantLanguage = 4
upgrade_rank_of upgrades.NoNewVariantLanguage = 5
upgrade_rank_of upgrades.SameWhole = 6

-- a record with this number, among those that the condition is on, fails it
pub record IsAtUpgradeFault (A B : List EntryParts) (condition : UpgradeCondition) (number : ℕ) : Type 0 where
  pub entry : EntryParts
  pub there : Contains (records_of condition A B) entry
  pub numbered : entry.number ≡ number
  pub fails : MeetsUpgrade condition A B entry → ⊥

-- the first condition that fails, and the least number of a record that fails it
pub record IsUpgradeFinding (A B : List EntryParts) (condition : UpgradeCondition) (number : ℕ) : Type 0 where
  pub fault : IsAtUpgradeFault A B condition number
  pub lower : (other : UpgradeCondition) → upgrade_rank_of other < upgrade_rank_of condition
      → All (MeetsUpgrade other A B) (records_of other A B)
  pub first : (other : ℕ) → IsAtUpgradeFault A B condition other → number ≤ other
