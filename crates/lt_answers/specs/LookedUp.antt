-- The line that lookup by language ranges finds among those of a reader (RFC 4647, 3.4).
use Rattle.std.specs.Prelude.{◌≡◌, ◌⊎◌, ◌∷◌, ℕ, List, [], Some, None}
use Rattle.std.specs.List.{slice_get}
use Rattle.lt_jar.specs.Lines.{content_of}
use Rattle.lt_registry.specs.Parts.{EntryParts}
use Rattle.lt_range.specs.Ranges.{RangeParts}
use Rattle.lt_range.specs.Lookup.{IsDefault, IsFound}
use Rattle.lt_range.specs.Matched.{HasNoSubtags, HasSubtags}
use Rattle.lt_range.specs.Spellings.{Spellings}
use Rattle.lt_answers.specs.Searching.{Finding}

-- The spellings by which a line is looked up: those of its tag. A carriage return (13) that ends the line is no part of
-- the tag. A line that has no extlang form has no spellings, and no range finds it.
abbrev pub LineHas : List EntryParts → List ℕ → Spellings → Type 0
LineHas R line tag = HasSubtags R (content_of line) tag ⊎ (HasNoSubtags R (content_of line) × (tag ≡ []))

-- the spellings by which each of these lines is looked up, in order
abbrev pub LinesHave : List EntryParts → List (List ℕ) → List Spellings → Type 0
LinesHave R [] tags = tags ≡ []
LinesHave R (line ∷ lines) tags = (tag : Spellings) × (more : List Spellings) × LineHas R line tag
    × (tags ≡ tag ∷ more) × LinesHave R lines more

-- lookup finds this line: only the first range that finds a line counts, and this is the first of the lines that are
-- closest to that range
pub record FindsLine (R : List EntryParts) (ranges : List RangeParts) (lines : List (List ℕ))
    (line : List ℕ) : Type 0 where
  pub lists : List Spellings
  pub have : LinesHave R lines lists
  pub place : ℕ
  pub found : IsFound ranges lists place
  pub there : slice_get lines place ≡ Some line

-- lookup finds no line, so that a default is to be used
pub record FindsNoLine (R : List EntryParts) (ranges : List RangeParts) (lines : List (List ℕ)) : Type 0 where
  pub lists : List Spellings
  pub have : LinesHave R lines lists
  pub none : IsDefault ranges lists

-- what lookup finds among lines
abbrev pub LooksUp : List EntryParts → List RangeParts → Finding
LooksUp R ranges lines None = FindsNoLine R ranges lines
LooksUp R ranges lines (Some line) = FindsLine R ranges lines line.items
