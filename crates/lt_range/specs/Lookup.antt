-- Which tag lookup finds by a language priority list (RFC 4647, 3.4).
use Rattle.std.specs.Prelude.{ℕ, ◌≡◌, ◌<◌, ◌≤◌, List, [], ◌∷◌, ◌++◌, length, slice_index_or}
use Rattle.std.specs.List.{AllByRecursion}
use Rattle.lt_range.specs.Ranges.{RangeParts}
use Rattle.lt_range.specs.Matching.{FallsBackTo}
use Rattle.lt_range.specs.Spellings.{MatchesSome, Spellings, count_in}

-- the tag at a place; after the last one, a tag without spellings
abbrev pub tag_at : List Spellings → ℕ → Spellings
tag_at tags place = slice_index_or tags place []

-- a range finds none of the first `count` tags, however far it is cut
abbrev pub FindsNoneOf : ℕ → List Spellings → RangeParts → Type 0
FindsNoneOf count tags range = (i : ℕ) → i < count → MatchesSome FallsBackTo range (tag_at tags i) → ⊥

-- Of the first `count` tags a range finds the one at `place`: the range can be cut to that tag, and of those tags to
-- which it can be cut this is the longest by its first spelling, and the first of that length (RFC 4647, 3.4).
pub record FindsAmong (range : RangeParts) (tags : List Spellings) (count place : ℕ) : Type 0 where
  pub within : place < count
  pub found : MatchesSome FallsBackTo range (tag_at tags place)
  pub longest : (i : ℕ) → i < count → MatchesSome FallsBackTo range (tag_at tags i)
      → count_in (tag_at tags i) ≤ count_in (tag_at tags place)
  pub first : (i : ℕ) → i < place → MatchesSome FallsBackTo range (tag_at tags i)
      → count_in (tag_at tags i) < count_in (tag_at tags place)

-- a range finds none of the tags
abbrev pub FindsNone : List Spellings → RangeParts → Type 0
FindsNone tags range = FindsNoneOf (length tags) tags range

-- a range finds the tag at a place
abbrev pub Finds : RangeParts → List Spellings → ℕ → Type 0
Finds range tags place = FindsAmong range tags (length tags) place

-- the tag at this place is found by the first range of a priority list that finds any
pub record IsFound (ranges : List RangeParts) (tags : List Spellings) (place : ℕ) : Type 0 where
  pub before : List RangeParts
  pub range : RangeParts
  pub after : List RangeParts
  pub there : ranges ≡ before ++ range ∷ after
  pub none_before : AllByRecursion (FindsNone tags) before
  pub finds : Finds range tags place

-- no range finds a tag, so that a default is to be used (RFC 4647, 3.4 and 3.4.1)
abbrev pub IsDefault : List RangeParts → List Spellings → Type 0
IsDefault ranges tags = AllByRecursion (FindsNone tags) ranges
