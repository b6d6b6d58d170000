-- What a header asks for: its language ranges, as they match, with their weights (RFC 9110, 12.4.2 and 12.5.4).
use Rattle.std.specs.Prelude.{ℕ, ◌≡◌, ◌<◌, ◌+◌, List, [], ◌∷◌, ◌++◌, length, map, slice_index_or, Err}
use Rattle.lt_registry.specs.Parts.{EntryParts}
use Rattle.lt_range.specs.Elements.{ElementParts, parts_of}
use Rattle.lt_range.specs.Headers.{elements_of}
use Rattle.lt_range.specs.Matched.{AreRangesOf}
use Rattle.lt_range.specs.Ranges.{RangeParts}
use Rattle.lt_range.specs.Priority.{IsReading}
use Rattle.lt_range.specs.Refusals.{IsRangeRefusal}
use Rattle.lt_range.specs.declared.asked.HeaderRefusal.{HeaderRefusal}
use Rattle.lt_range.specs.declared.asked.HeaderRefusal.TheVariants as refusals
use Rattle.lt_range.specs.declared.elements.WeightedRange.{WeightedRange}
use Rattle.lt_range.specs.declared.preferences.Preference.{Preference}
use Rattle.lt_range.specs.declared.refusals.RangeRefusal.{RangeRefusal}

-- the element at a place; after the last one, an element without a text
abbrev pub element_at_place : List ElementParts → ℕ → ElementParts
element_at_place elements place = slice_index_or elements place (record { range = []; weight = 0 })

-- a range with a weight and a place
abbrev pub weighted : ℕ → ℕ → RangeParts → Preference
weighted weight place range = record { range = range; weight = weight; place = place }

-- the preferences of the element at a place: the ranges by which its text matches, each with the weight of the element
pub record ArePreferencesOf (R : List EntryParts) (place : ℕ) (element : ElementParts) (preferences : List Preference)
    : Type 0 where
  pub ranges : List RangeParts
  pub are_ranges : AreRangesOf R element.range ranges
  pub are : preferences ≡ map (weighted element.weight place) ranges

-- the preferences of each of the elements, which have the places from `place` on, in their order
abbrev pub ArePreferences : List EntryParts → ℕ → List ElementParts → List Preference → Type 0
ArePreferences R place [] preferences = preferences ≡ []
ArePreferences R place (e ∷ es) preferences = (here rest : List Preference) × (preferences ≡ here ++ rest)
    × ArePreferencesOf R place e here × ArePreferences R (place + 1) es rest

-- the refusal is that of the range of one of the elements
pub record IsElementRefusal (R : List EntryParts) (elements : List ElementParts) (refusal : RangeRefusal)
    : Type 0 where
  pub place : ℕ
  pub within : place < length elements
  pub refused : IsRangeRefusal R (element_at_place elements place).range refusal

-- The preferences of a header: first those of its acceptable ranges, whose weight is not 0, from the greatest weight to
-- the least, and then those of the others, in the order of the header.
pub record Asks (R : List EntryParts) (header : List ℕ) (preferences : List Preference) : Type 0 where
  pub acceptable : List WeightedRange
  pub not_acceptable : List WeightedRange
  pub reading : IsReading header acceptable not_acceptable
  pub each : ArePreferences R 0 (map parts_of (acceptable ++ not_acceptable)) preferences

-- the header is read, and one of its ranges is refused
pub record HasRefusedRange (R : List EntryParts) (header : List ℕ) (refusal : RangeRefusal) : Type 0 where
  pub acceptable : List WeightedRange
  pub not_acceptable : List WeightedRange
  pub reading : IsReading header acceptable not_acceptable
  pub refused : IsElementRefusal R (map parts_of (acceptable ++ not_acceptable)) refusal

-- why a text gives no preferences: it is no header, or one of its ranges is refused; OutOfMemory may be answered for
-- any text
abbrev pub IsHeaderRefusal : List EntryParts → List ℕ → HeaderRefusal → Type 0
IsHeaderRefusal R header (refusals.NotAHeader fault) = elements_of header ≡ Err fault
IsHeaderRefusal R header (refusals.BadRange refusal) = HasRefusedRange R header refusal
IsHeaderRefusal R header refusals.OutOfMemory = Unit {0}
