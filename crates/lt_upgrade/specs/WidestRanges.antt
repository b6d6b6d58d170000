-- The widest ranges of a registry, in order, and whether one of them holds a given range.
use Rattle.std.specs.Prelude.{ℕ, ◌≡◌, Bool, true, ◌&&◌, List, [], ◌∷◌, length, Option, Some, None}
use Rattle.std.specs.List.{AllByRecursion, list_any, filter_map}
use Rattle.std.specs.Ordering.{nat_cmp, ordering_then, is_le}
use Rattle.std.specs.Cmp.Lexicographic.{slice_cmp}
use Rattle.std.specs.declared.cmp.Ordering.{Ordering}
use Rattle.lt_registry.specs.Parts.{EntryParts}
use Rattle.lt_registry.specs.declared.entries.Kind.{Kind}
use Rattle.lt_registry.specs.declared.entries.EntryName.{EntryName}
use Rattle.lt_registry.specs.declared.entries.EntryName.TheVariants as names
use Rattle.lt_check.specs.NameChecks.{kind_number}
use Rattle.lt_upgrade.specs.UpgradeChecking.{some_covers}
use Rattle.lt_upgrade.specs.declared.widest_ranges.RangeEnd.{RangeEnd}
use Rattle.lt_upgrade.specs.declared.widest_ranges.RangeRow.{RangeRow}

-- an end, the first or the last, of a range of subtags of a kind, by its subtag; ends are in the order of kinds,
-- lengths and letters (`end_cmp`)
abbrev pub range_end : Kind → List ℕ → RangeEnd
range_end kind subtag = record { kind = kind_number kind; length = length subtag; subtag = subtag }

-- the order of ends of ranges: by the kind, then the length, then the letters
abbrev pub end_cmp : RangeEnd → RangeEnd → Ordering
end_cmp a b = ordering_then (nat_cmp a.kind b.kind)
    (ordering_then (nat_cmp a.length b.length) (slice_cmp nat_cmp a.subtag b.subtag))

-- whether the end `a` is `b` or before it
abbrev pub is_up_to : RangeEnd → RangeEnd → Bool
is_up_to a b = is_le (end_cmp a b)

-- whether a range, by its ends, holds the whole range from the end `first` to the end `last`
abbrev pub contains : RangeEnd → RangeEnd → RangeRow → Bool
contains first last row = is_up_to row.first first && is_up_to last row.last

-- the range that a record of this kind names; None if it names none
abbrev pub range_row : Kind → EntryName → Option RangeRow
range_row kind (names.Range first last) = Some (record { first = range_end kind first; last = range_end kind last })
range_row kind _ = None

-- the ranges of a registry, in the order of the file
abbrev pub range_rows : List EntryParts → List RangeRow
range_rows R = filter_map (λ (e : EntryParts). range_row e.kind e.name) R

-- each range begins no earlier, and ends no earlier, than those before it in the list
abbrev pub EndsRise : List RangeRow → Type 0
EndsRise [] = Unit {0}
EndsRise (v ∷ rows) = AllByRecursion
    (λ (w : RangeRow). (is_up_to v.first w.first ≡ true) × (is_up_to v.last w.last ≡ true)) rows × EndsRise rows

-- one of the ranges `rows` holds a range of equally long ends exactly if a record of the registry `R` names one that
-- does
abbrev pub HoldRanges : List EntryParts → List RangeRow → Type 0
HoldRanges R rows =
    (kind : Kind) (first last : List ℕ) → length first ≡ length last →
    list_any (contains (range_end kind first) (range_end kind last)) rows ≡ some_covers R kind first last
