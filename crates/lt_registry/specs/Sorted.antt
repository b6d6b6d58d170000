-- The indexes beside the entries of a registry, by which a subtag or a whole tag is found fast. `number s` is a subtag
-- as one number of 64 bits, its first byte the highest, and a place is the index of an entry among the entries `R`.
use Rattle.std.specs.Prelude.{ℕ, ◌≡◌, ◌≤◌, ◌<◌, ◌-◌, ◌+◌, ◌*◌, ◌/◌, ◌%◌, ◌^◌, min, ◌==◌, nat_le, nat_lt, Bool, true}
use Rattle.std.specs.Prelude.{false, if◌then◌else◌, ◌&&◌, List, [], ◌∷◌, length, Option, Some, None, All, find}
use Rattle.std.specs.Prelude.{slice_index}
use Rattle.std.specs.List.{AllByRecursion, AllPairs, Any, Contains, slice_get, cons_option}
use Rattle.std.specs.Option.{option_map, option_and_then, option_or, option_cmp}
use Rattle.std.specs.Ordering.{nat_cmp, ordering_then}
use Rattle.std.specs.declared.cmp.Ordering.{Ordering}
use Rattle.std.specs.declared.cmp.Ordering.TheVariants.{Less, Equal}
use Rattle.lt_subtag.specs.Lanes.{number}
use Rattle.lt_tag.specs.Parts.{CoreParts, TagForm}
use Rattle.lt_tag.specs.Values.{core_of}
use Rattle.lt_registry.specs.Parts.{EntryParts}
use Rattle.lt_registry.specs.Same.{same_kind}
use Rattle.lt_tag.specs.Order.{tag_cmp}
use Rattle.lt_registry.specs.declared.entries.Kind.{Kind}
use Rattle.lt_registry.specs.declared.entries.Kind.TheVariants as kinds
use Rattle.lt_registry.specs.declared.entries.EntryName.{EntryName}
use Rattle.lt_registry.specs.declared.entries.EntryName.TheVariants as names
use Rattle.lt_registry.specs.declared.rows.Row.{Row}
use Rattle.lt_registry.specs.declared.rows.RangeRow.{RangeRow}
use Rattle.lt_registry.specs.declared.rows.Stretch.{Stretch}
use Rattle.lt_registry.specs.declared.kind_index.KindIndex.{KindIndex}
use Rattle.lt_registry.specs.declared.indexes.Indexes.{Indexes}

-- the rank of a subtag: its length, and below it the 64 bits of its number, so that subtags of one length are together,
-- in their order
abbrev pub rank : List ℕ → ℕ
rank s = length s * 2 ^ 64 + number s

-- the number of the subtag that a name is; None if the name is not one subtag
abbrev pub single_number : EntryName → Option ℕ
single_number (names.Single s) = Some (number s)
single_number _ = None

-- the index row of an entry at a place, if it names one subtag of the kind
abbrev pub single_row : Kind → ℕ → EntryParts → Option Row
single_row kind place e = if same_kind e.kind kind
    then option_map (λ n. record { number = n; place = place }) (single_number e.name) else None

-- the rank of the first subtag of a range, and one more than that of its last
abbrev pub ends : EntryName → Option (ℕ × ℕ)
ends (names.Range a b) = Some (rank a, rank b + 1)
ends _ = None

-- the index row of an entry at a place, if it names a range of the kind
abbrev pub range_row : Kind → ℕ → EntryParts → Option RangeRow
range_row kind place e = if same_kind e.kind kind
    then option_map (λ (n : ℕ × ℕ). record { start = n.0; end = n.1; place = place }) (ends e.name) else None

-- the index rows of the ranges of a kind, in the order of the file, where the first entry is at a place
abbrev pub range_rows : Kind → ℕ → List EntryParts → List RangeRow
range_rows kind place [] = []
range_rows kind place (e ∷ es) = cons_option (range_row kind place e) (range_rows kind (place + 1) es)

-- whether a rank is in a range, whose `end` is one more than the rank of its last subtag
abbrev pub is_within : ℕ → RangeRow → Bool
is_within rank row = nat_le row.start rank && nat_lt rank row.end

-- the place of the first range that a rank is in; None if it is in none
abbrev pub first_within : List RangeRow → ℕ → Option ℕ
first_within rows rank = option_map (λ (row : RangeRow). row.place) (find (is_within rank) rows)

-- What the stretch that a rank is in says, and `before` if the rank is before the first stretch. A stretch reaches to
-- the start of the next, and says the place of an entry, or None for no entry.
abbrev pub place_in : Option ℕ → List Stretch → ℕ → Option ℕ
place_in before [] rank = before
place_in before (s ∷ ss) rank = if nat_le s.start rank then place_in s.place ss rank else before

-- no stretch starts before one that is earlier in the list
abbrev pub StartsRise : List Stretch → Type 0
StartsRise [] = Unit {0}
StartsRise (s ∷ ss) = AllByRecursion (λ (t : Stretch). s.start ≤ t.start) ss × StartsRise ss

-- the stretches say of each rank which range is the first that it is in
pub record AreStretches (rows : List RangeRow) (stretches : List Stretch) : Type 0 where
  pub rising : StartsRise stretches
  pub places : (rank : ℕ) → place_in None stretches rank ≡ first_within rows rank

-- the stretches say of each rank what `earlier` says, or, if that says None, what `later` says
pub record AreMerged (earlier later stretches : List Stretch) : Type 0 where
  pub rising : StartsRise stretches
  pub places : (rank : ℕ) → place_in None stretches rank ≡ option_or
      (place_in None earlier rank) (place_in None later rank)

-- whether the first list begins with a stretch that starts no later than the first of the second list, if that has one
abbrev pub starts_first : List Stretch → List Stretch → Bool
starts_first [] ts = false
starts_first (s ∷ ss) [] = true
starts_first (s ∷ ss) (t ∷ ts) = nat_le s.start t.start

-- the whole tag that a name is, if it is one
abbrev pub tag_in : EntryName → Option TagForm
tag_in (names.Whole t) = Some t
tag_in _ = None

-- the number of a core's language, and 0 where there is no core
abbrev pub core_number : Option CoreParts → ℕ
core_number (Some c) = number c.language
core_number None = 0

-- the number of a tag's language, and 0 for a tag without a core
abbrev pub language_number : TagForm → ℕ
language_number t = core_number (core_of t)

-- the index row of an entry at a place, if it names a whole tag
abbrev pub whole_row : ℕ → EntryParts → Option Row
whole_row place e = option_map (λ (t : TagForm). record { number = language_number t; place = place }) (tag_in e.name)

-- the whole tag that the record at a place names
abbrev pub tag_at : List EntryParts → ℕ → Option TagForm
tag_at R place = option_and_then (λ (e : EntryParts). tag_in e.name) (slice_get R place)

-- the order of whole tags in the index: by the numbers of their languages, then by the tags
abbrev pub whole_key_cmp : ℕ × Option TagForm → ℕ × Option TagForm → Ordering
whole_key_cmp a b = ordering_then (nat_cmp a.0 b.0) (option_cmp tag_cmp a.1 b.1)

-- what the rows of whole tags are sorted by: the number of the language, and the tag
abbrev pub whole_key : List EntryParts → Row → ℕ × Option TagForm
whole_key R w = (w.number, tag_at R w.place)

-- the order of the rows of whole tags: by their keys, and rows of equal keys by their places
abbrev pub whole_cmp : List EntryParts → Row → Row → Ordering
whole_cmp R v w = ordering_then (whole_key_cmp (whole_key R v) (whole_key R w)) (nat_cmp v.place w.place)

-- the row is that of the entry at its place: `row` gives an entry's row, `place` a row's place
abbrev pub IsRowAt : {W : Type 0} → (ℕ → EntryParts → Option W) → (W → ℕ) → List EntryParts → W → Type 0
IsRowAt row place R w = (e : EntryParts) × (slice_get R (place w) ≡ Some e) × (row (place w) e ≡ Some w)

-- the rows of the first `i` entries, in any order: `row` gives the row that an entry at a place has, if any, and
-- `place` a row's place
pub record AreRows {W : Type 0} (row : ℕ → EntryParts → Option W)
    (place : W → ℕ) (R : List EntryParts) (i : ℕ) (rows : List W) : Type 0 where
  pub sound : All (IsRowAt row place R) rows
  pub complete : (p : ℕ) (e : EntryParts) (w : W) → p < i → slice_get R p ≡ Some e → row p e ≡ Some w → Contains rows w

-- The rows are in the order of their keys, and each key is there once. Each row is that of an entry. For each entry
-- that has a row, that row or one of the same key from an earlier entry is there. `row` gives an entry's row, `place`
-- and `key` a row's place and key, and `cmp` orders keys.
pub record IsIndex {W K : Type 0} (row : ℕ → EntryParts → Option W) (place : W → ℕ)
    (key : W → K) (cmp : K → K → Ordering) (R : List EntryParts) (rows : List W) : Type 0 where
  pub rising : AllPairs (λ v w. cmp (key v) (key w) ≡ Less) rows
  pub sound : All (IsRowAt row place R) rows
  pub complete : (p : ℕ) (e : EntryParts) (w : W) → slice_get R p ≡ Some e
      → row p e ≡ Some w → Any (λ v. (cmp (key v) (key w) ≡ Equal) × (place v ≤ p)) rows

-- the rows of the records of one subtag of a kind, in the order of the subtags; of records of one subtag only the first
abbrev pub IsSingles : List EntryParts → Kind → List Row → Type 0
IsSingles R kind rows = IsIndex (single_row kind) (λ (w : Row). w.place) (λ (w : Row). w.number) nat_cmp R rows

-- the rows of whole tags, in the order of their languages and tags; of records of one tag only the first
abbrev pub IsWholes : List EntryParts → List Row → Type 0
IsWholes R rows = IsIndex whole_row (λ (w : Row). w.place) (whole_key R) whole_key_cmp R rows

-- each row has a greater number than those before it
abbrev pub RowsRise : List Row → Type 0
RowsRise rows = AllPairs (λ (v w : Row). nat_cmp v.number w.number ≡ Less) rows

-- the place in the row with this number; None if no row has it
abbrev pub place_of : ℕ → List Row → Option ℕ
place_of n rows = option_map (λ (w : Row). w.place) (find (λ (w : Row). w.number == n) rows)

-- The beginning of a number: the first byte of its subtag, times 32, and the number of the second letter from 1, or 0
-- for a digit. A greater number has no lesser beginning. The two bytes are the highest of the number's eight; 96 is the
-- byte before `a`, and 31 keeps what is added below 32.
abbrev pub beginning : ℕ → ℕ
beginning n = n / 2 ^ 56 * 32 + min (n / 2 ^ 48 % 256 - 96) 31

-- the index `i` of a row is in the span of the beginning `k`: from the start of that to the start of the next
pub record IsInSpan (starts : List ℕ) (k i : ℕ) : Type 0 where
  pub listed : k + 1 < length starts
  pub started : slice_index starts k ≤ i
  pub not_ended : i < slice_index starts (k + 1)

-- Where the rows of each beginning start: each row is in the span of its beginning, and no start is after the last row.
pub record AreStarts (rows : List Row) (starts : List ℕ) : Type 0 where
  pub spans : (i : ℕ) (w : Row) → slice_get rows i ≡ Some w → IsInSpan starts (beginning w.number) i
  pub bounded : All (λ start. start ≤ length rows) starts

-- an index of the records in `R` of the kind that it keeps: the rows of single subtags, where those of each beginning
-- start, and the stretches of the ranges
pub record IsKindIndex (R : List EntryParts) (index : KindIndex) : Type 0 where
  pub singles : IsSingles R index.kind index.singles.items
  pub starts : AreStarts index.singles.items index.starts.items
  pub ranges : AreStretches (range_rows index.kind 0 R) index.ranges.items

-- the indexes of a registry: one for each kind that is named by subtags, and one of whole tags
pub record AreIndexes (R : List EntryParts) (indexes : Indexes) : Type 0 where
  pub languages : (indexes.languages.kind ≡ kinds.Language) × IsKindIndex R indexes.languages
  pub extlangs : (indexes.extlangs.kind ≡ kinds.Extlang) × IsKindIndex R indexes.extlangs
  pub scripts : (indexes.scripts.kind ≡ kinds.Script) × IsKindIndex R indexes.scripts
  pub regions : (indexes.regions.kind ≡ kinds.Region) × IsKindIndex R indexes.regions
  pub variants : (indexes.variants.kind ≡ kinds.Variant) × IsKindIndex R indexes.variants
  pub wholes : IsWholes R indexes.wholes.rows.items

-- the index of a kind; kinds of whole tags have none
abbrev pub index_of : Indexes → Kind → Option KindIndex
index_of indexes kinds.Language = Some indexes.languages
index_of indexes kinds.Extlang = Some indexes.extlangs
index_of indexes kinds.Script = Some indexes.scripts
index_of indexes kinds.Region = Some indexes.regions
index_of indexes kinds.Variant = Some indexes.variants
index_of indexes kinds.Grandfathered = None
index_of indexes kinds.Redundant = None
