-- Which names of records are ranges, and whether a name is new, as the condition C1 asks.
use Rattle.std.specs.Prelude.{ℕ, ◌≡◌, ◌<◌, ◌↔◌, ◌⊎◌, true, false, List, Option, Some, None, Contains, MatchOption}
use Rattle.lt_registry.specs.Parts.{EntryParts}
use Rattle.lt_registry.specs.declared.entries.Kind.{Kind}
use Rattle.lt_registry.specs.declared.entries.Kind.TheVariants as kinds
use Rattle.lt_registry.specs.declared.entries.EntryName.{EntryName}
use Rattle.lt_registry.specs.declared.entries.EntryName.TheVariants as names
use Rattle.lt_rewrite.specs.Conditions.{HasOwnName}
use Rattle.lt_check.specs.Flags.{flag}
use Rattle.lt_check.specs.Places.{place}
use Rattle.lt_check.specs.declared.range_names.RangeName.{RangeName}

-- a number for each kind of record, by which ranges of all kinds are kept in one order
abbrev pub kind_number : Kind → ℕ
kind_number kinds.Language = 0
kind_number kinds.Extlang = 1
kind_number kinds.Script = 2
kind_number kinds.Region = 3
kind_number kinds.Variant = 4
kind_number kinds.Grandfathered = 5
kind_number kinds.Redundant = 6

-- the range from `first` to `last` of subtags of a kind
abbrev pub range_name : Kind → List ℕ → List ℕ → RangeName
range_name kind first last = record { kind = kind_number kind; first = first; last = last }

-- the range that the name of a record of this kind is, if it is one
abbrev pub range_at : Kind → EntryName → Option RangeName
range_at kind (names.Range first last) = Some (range_name kind first last)
range_at kind (names.Single s) = None
range_at kind (names.Whole t) = None

-- the range that a record names, if it names one
abbrev pub range_of : EntryParts → Option RangeName
range_of e = range_at e.kind e.name

-- A range is new if it is not among those that were seen, any other name if no record with a lower number has it.
abbrev pub IsNew : List EntryParts → List RangeName → EntryParts → Type 0
IsNew R seen e = MatchOption (range_of e) (HasOwnName R e) (λ name. Contains seen name → ⊥)

-- the range that a record names, if it names one, was added to those seen before, `old`, which made `new`
abbrev pub SeesRange : EntryParts → List RangeName → List RangeName → Type 0
SeesRange e old new =
    MatchOption (range_of e) (new ≡ old)
    (λ range. (name : RangeName) → Contains new name ↔ (Contains old name ⊎ (range ≡ name)))

-- the subtag of a kind has a place, whose flag is clear in `words`
pub record WasClear (words : List ℕ) (kind : Kind) (s : List ℕ) : Type 0 where
  pub number : ℕ
  pub is_place : place kind s ≡ Some number
  pub clear : flag words number ≡ false

-- the flag of the record's subtag is set in `words`, if that has a place
abbrev pub IsMarked : List ℕ → EntryParts → Type 0
IsMarked words e = (s : List ℕ) (n : ℕ) → e.name ≡ names.Single s → place e.kind s ≡ Some n → flag words n ≡ true

-- the flags of the subtags of the records of `R` with lower numbers than `e` are set in `words`
abbrev pub AreMarked : List EntryParts → EntryParts → List ℕ → Type 0
AreMarked R e words = (f : EntryParts) → Contains R f → f.number < e.number → IsMarked words f

-- `new` has at least the flags that were set in `old`, and that of the subtag of the record `e`, if it has a place
pub record MarksMore (e : EntryParts) (old new : List ℕ) : Type 0 where
  pub kept : (n : ℕ) → flag old n ≡ true → flag new n ≡ true
  pub own : IsMarked new e
