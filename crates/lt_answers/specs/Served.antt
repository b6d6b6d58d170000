-- Which of the lines of a reader preferences serve (RFC 9110, 12.5.4).
use Rattle.std.specs.Prelude.{◌≡◌, ◌++◌, ◌∷◌, ℕ, List, [], Option, Some, None, Vec, map, take}
use Rattle.std.specs.List.{slice_get}
use Rattle.std.specs.declared.alloc.Global.{Global}
use Rattle.lt_jar.specs.Lines.{content_of}
use Rattle.lt_registry.specs.Parts.{EntryParts}
use Rattle.lt_range.specs.Matched.{HasSubtags}
use Rattle.lt_range.specs.Preferences.{IsBest}
use Rattle.lt_range.specs.Spellings.{Spellings}
use Rattle.lt_range.specs.declared.preferences.Preference.{Preference}
use Rattle.lt_answers.specs.LookedUp.{LinesHave}
use Rattle.lt_answers.specs.Searching.{Finding}
use Rattle.lt_answers.specs.Selection.{AreSelected, longest_kept}

-- the line is a tag that has an extlang form, and so spellings by which it is matched; a carriage return (13) that ends
-- the line is no part of the tag
abbrev pub IsTagLine : List EntryParts → List ℕ → Type 0
IsTagLine R line = (tag : Spellings) × HasSubtags R (content_of line) tag

-- `tags` are the lines that are tags, and `lists` the spellings by which these are matched, both in order
pub record AreTagLines (R : List EntryParts) (lines tags : List (List ℕ)) (lists : List Spellings)
    : Type 0 where
  pub are : AreSelected (IsTagLine R) lines tags
  pub have : LinesHave R tags lists

-- the preferences serve this line: of the lines that are tags, the best
pub record ServesLine (R : List EntryParts) (preferences : List Preference) (lines : List (List ℕ))
    (line : List ℕ) : Type 0 where
  pub tags : List (List ℕ)
  pub lists : List Spellings
  pub are : AreTagLines R lines tags lists
  pub place : ℕ
  pub best : IsBest preferences lists (Some place)
  pub there : slice_get tags place ≡ Some line

-- the preferences serve no line, so that a default is to be used
pub record ServesNoLine (R : List EntryParts) (preferences : List Preference) (lines : List (List ℕ)) : Type 0 where
  pub tags : List (List ℕ)
  pub lists : List Spellings
  pub are : AreTagLines R lines tags lists
  pub none : IsBest preferences lists None

-- what preferences serve among lines
abbrev pub ServesAmong : List EntryParts → List Preference → Finding
ServesAmong R preferences lines None = ServesNoLine R preferences lines
ServesAmong R preferences lines (Some line) = ServesLine R preferences lines line.items

-- ---- the steps; no public contract cites these

-- the bytes of lines
abbrev pub texts_of : List (Vec ℕ Global) → List (List ℕ)
texts_of lines = map (λ (line : Vec ℕ Global). line.items) lines

-- a line was put after others, `old`, which gives `new`, and its spellings, `tag`, after theirs, `tags`, which gives
-- `tags'`
pub record PutsLine (line : List ℕ) (tag : Spellings) (old new : List (Vec ℕ Global))
    (tags tags' : List Spellings) : Type 0 where
  pub lines : texts_of new ≡ texts_of old ++ line ∷ []
  pub lists : tags' ≡ tags ++ tag ∷ []

-- If `old` are the tags among any lines, and `tags` their spellings, then `new` and `tags'` are the same for these lines
-- and one further line, of which `kept` is kept.
abbrev pub TakesTag : List EntryParts → (kept : List ℕ) → (old new : List (Vec ℕ Global))
    → (tags tags' : List Spellings) → Type 0
TakesTag R kept old new tags tags' = (lines : List (List ℕ)) (line : List ℕ) → kept ≡ take longest_kept line
    → AreTagLines R lines (texts_of old) tags → AreTagLines R (lines ++ line ∷ []) (texts_of new) tags'

-- if, by any entries `R`, `kept` are the tags among some lines, and `tags` their spellings, then `found` is what the
-- preferences serve among these lines
abbrev pub ServesOf : List Preference → (kept : List (Vec ℕ Global)) → (tags : List Spellings)
    → Option (Vec ℕ Global) → Type 0
ServesOf preferences kept tags found = (R : List EntryParts) (lines : List (List ℕ))
    → AreTagLines R lines (texts_of kept) tags → ServesAmong R preferences lines found
