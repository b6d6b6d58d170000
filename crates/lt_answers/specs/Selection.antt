-- Which lines language ranges select, and what is to be written for the bytes of a reader (RFC 4647, 3.3).
use Rattle.std.specs.Prelude.{◌≡◌, ◌⊎◌, ◌++◌, ◌∷◌, ℕ, List, [], length}
use Rattle.std.specs.List.{AllByRecursion}
use Rattle.lt_jar.specs.Lines.{IsOneLine, content_of, lines_of, whole_lines}
use Rattle.lt_tag.specs.Parts.{TagForm}
use Rattle.lt_tag.specs.Faults.{HasTag}
use Rattle.lt_registry.specs.Parts.{EntryParts}
use Rattle.lt_range.specs.Ranges.{RangeParts}
use Rattle.lt_range.specs.Matched.{AnyMatches}
use Rattle.lt_range.specs.Spellings.{HasSpellings, Spellings}
use Rattle.lt_range.specs.declared.matching.Scheme.{Scheme}

-- The text is a tag, and one of the ranges matches one of its spellings, of which the first is its extlang form (RFC
-- 5646, 4.5). No range matches a text that has no extlang form.
pub record IsMatched (R : List EntryParts) (scheme : Scheme) (ranges : List RangeParts) (text : List ℕ) : Type 0 where
  pub tag : TagForm
  pub read : HasTag text tag
  pub lists : Spellings
  pub has : HasSpellings R tag lists
  pub matches : AnyMatches scheme ranges lists

-- the line is selected by ranges; a carriage return (13) that ends it is no part of the tag
abbrev pub IsSelected : List EntryParts → Scheme → List RangeParts → List ℕ → Type 0
IsSelected R scheme ranges line = IsMatched R scheme ranges (content_of line)

-- a statement on lines, true of those that are selected
abbrev pub Selection : Type 1
Selection = List ℕ → Type 0

-- these are the lines that are selected, in their order
abbrev pub AreSelected : Selection → (lines selected : List (List ℕ)) → Type 0
AreSelected P [] selected = selected ≡ []
AreSelected P (line ∷ lines) selected =
    (P line × (rest : List (List ℕ)) × (selected ≡ line ∷ rest) × AreSelected P lines rest)
    ⊎ ((P line → ⊥) × AreSelected P lines selected)

-- the most bytes that are kept of a line: 1,024 of the longest tag, one more by which a line is known to be too long,
-- and a carriage return (13)
abbrev pub longest_kept : ℕ
longest_kept = 1026

-- `written` is those of these lines that are selected, each with a line feed, and `count` is how many they are
pub record AreOwed (P : Selection) (lines : List (List ℕ)) (written : List ℕ) (count : ℕ) : Type 0 where
  pub selected : List (List ℕ)
  pub are : AreSelected P lines selected
  pub all : written ≡ whole_lines selected
  pub counted : count ≡ length selected

-- `written` is the selected lines of these bytes, each with a line feed, and `count` is how many they are
abbrev pub IsOwed : Selection → (bytes written : List ℕ) → ℕ → Type 0
IsOwed P bytes written count = AreOwed P (lines_of bytes) written count

-- `written` is the selected lines of the bytes up to the last line feed
pub record IsOwedToLastFeed (P : Selection) (bytes written : List ℕ) : Type 0 where
  pub lines : List (List ℕ)
  pub last : List ℕ
  pub cut : bytes ≡ whole_lines lines ++ last
  pub each_one : AllByRecursion IsOneLine lines
  pub last_one : IsOneLine last
  pub selected : List (List ℕ)
  pub are : AreSelected P lines selected
  pub all : written ≡ whole_lines selected

-- what was written is a front, that is, the first bytes, of the selected ones of some first lines of the bytes, each
-- with a line feed
pub record IsBegun (P : Selection) (bytes written : List ℕ) : Type 0 where
  pub lines : List (List ℕ)
  pub others : List (List ℕ)
  pub cut : lines_of bytes ≡ lines ++ others
  pub selected : List (List ℕ)
  pub are : AreSelected P lines selected
  pub rest : List ℕ
  pub front : whole_lines selected ≡ written ++ rest
