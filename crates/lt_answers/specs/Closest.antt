-- The line that lookup finds, of those that were read so far: the closest one. A range falls back to a tag if it
-- becomes the tag when subtags at its end are cut off (RFC 4647, 3.4), and so finds it. No public contract cites this.
use Rattle.std.specs.Prelude.{◌≡◌, ◌<◌, ◌⊎◌, ◌++◌, ◌∷◌, ℕ, List, [], true, length, take, Option, Some, None, Result, Err}
use Rattle.std.specs.Prelude.{slice_index_or}
use Rattle.lt_registry.specs.Parts.{EntryParts}
use Rattle.lt_range.specs.Ranges.{RangeParts}
use Rattle.lt_range.specs.Matching.{FallsBackTo}
use Rattle.lt_range.specs.Lookup.{Finds, FindsNone, tag_at}
use Rattle.lt_range.specs.Spellings.{count_in, MatchesSome, Spellings}
use Rattle.lt_stream.specs.declared.faults.ToolFault.{ToolFault}
use Rattle.lt_stream.specs.declared.faults.ToolFault.TheVariants as faults
use Rattle.lt_answers.specs.LookedUp.{LinesHave}
use Rattle.lt_answers.specs.Selection.{longest_kept}
use Rattle.lt_answers.specs.declared.closest.Closest.{Closest}

-- the range at a place; after the last, one that finds no tag
abbrev pub range_at : List RangeParts → ℕ → RangeParts
range_at ranges i = slice_index_or ranges i (record { wild = true; named = [] })

-- the line at a place; after the last, an empty one
abbrev pub line_at : List (List ℕ) → ℕ → List ℕ
line_at lines i = slice_index_or lines i []

-- none of the first `count` ranges falls back to a tag
abbrev pub NoneFalls : List RangeParts → ℕ → Spellings → Type 0
NoneFalls ranges count tag = (i : ℕ) → i < count → MatchesSome FallsBackTo (range_at ranges i) tag → ⊥

-- the range at `place` is the first that falls back to a tag
pub record FallsFirst (ranges : List RangeParts) (tag : Spellings) (place : ℕ) : Type 0 where
  pub within : place < length ranges
  pub falls : MatchesSome FallsBackTo (range_at ranges place) tag
  pub before : NoneFalls ranges place tag

-- the first range that finds one of the tags, whose spellings are `lists`, is the one at `range`, and it finds the one at
-- `place`, which has `count` subtags in its first spelling
pub record IsClosest (ranges : List RangeParts) (lists : List Spellings) (range count place : ℕ) : Type 0 where
  pub within : range < length ranges
  pub before : (i : ℕ) → i < range → FindsNone lists (range_at ranges i)
  pub finds : Finds (range_at ranges range) lists place
  pub counted : count ≡ count_in (tag_at lists place)

-- a tag of `count` subtags, to which the range at the place `range` falls back, is closer than what was found before
abbrev pub IsCloser : Option Closest → (range count : ℕ) → Type 0
IsCloser None range count = Unit {0}
IsCloser (Some closest) range count = (range < closest.range) ⊎ ((range ≡ closest.range) × (closest.count < count))

-- this is the closest of these lines, whose tags have the spellings `lists`, with the place of the range that finds it
-- and how many subtags its tag has; or None if no range finds a line
abbrev pub ClosestAmong : List RangeParts → List (List ℕ) → List Spellings → Option Closest → Type 0
ClosestAmong ranges lines lists None = (i : ℕ) → i < length ranges → FindsNone lists (range_at ranges i)
ClosestAmong ranges lines lists (Some closest) = (place : ℕ) × IsClosest ranges lists closest.range closest.count place
    × (line_at lines place ≡ closest.line.items)

-- `closest` is the closest of these lines by the entries R, or None if no range finds a line
pub record Holds (R : List EntryParts) (ranges : List RangeParts) (lines : List (List ℕ))
    (closest : Option Closest) : Type 0 where
  pub lists : List Spellings
  pub have : LinesHave R lines lists
  pub among : ClosestAmong ranges lines lists closest

-- if `old` is the closest of any lines, `new` is the closest of them and one further line, of which `kept` is kept
abbrev pub TakesLine : List EntryParts → List RangeParts → (kept : List ℕ) → (old new : Option Closest) → Type 0
TakesLine R ranges kept old new = (lines : List (List ℕ)) (line : List ℕ) → kept ≡ take longest_kept line
    → Holds R ranges lines old → Holds R ranges (lines ++ line ∷ []) new

-- if `old` is the closest of any lines, `new` is the closest of them and `line`, whose tag has the spellings `tag`
abbrev pub TakesSubtags : List RangeParts → (tag : Spellings) → (line : List ℕ)
    → (old new : Option Closest) → Type 0
TakesSubtags ranges tag line old new =
    (lines : List (List ℕ)) (lists : List Spellings) → length lines ≡ length lists
    → ClosestAmong ranges lines lists old → ClosestAmong ranges (lines ++ line ∷ []) (lists ++ tag ∷ []) new

-- how a run ends if what it writes is kept in memory: a write that fails is a lack of memory
abbrev pub in_memory : Result (Unit {0}) ToolFault → Result (Unit {0}) ToolFault
in_memory (Err faults.Write) = Err faults.OutOfMemory
in_memory end = end
