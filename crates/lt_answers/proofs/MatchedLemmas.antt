-- Lemmas for `is_selected`: a text is matched exactly if a range matches one of its spellings, and of a long line the front that
-- is kept tells whether the line is selected.
use Rattle.std.proofs.Common.{◌≡◌, ◌≤◌, ◌+◌, ◌-◌, ◌↔◌, inl, inr, Bool, IsTrue, true, false, ℕ, List, length, take}
use Rattle.std.proofs.Common.{subst, arith, if◌then◌else◌, length-take-le}
use Rattle.std.proofs.lemmas.Bool.Decides.{leb_tells}
use Rattle.std.specs.Io.BufRead.{ends_with_byte}
use Rattle.lt_jar.specs.Lines.{content_of}
use Rattle.lt_tag.specs.Faults.{HasTag}
use Rattle.lt_tag.specs.Parts.{TagForm}
use Rattle.lt_tag.proofs.OneTagLemmas.{one_tag_of_text}
use Rattle.lt_registry.specs.Parts.{EntryParts}
use Rattle.lt_range.specs.Ranges.{RangeParts}
use Rattle.lt_range.specs.Laws.{MatchingIsDetermined}
use Rattle.lt_range.specs.Matched.{AnyMatches, HasNoSubtags, HasSubtags}
use Rattle.lt_range.specs.Spellings.{HasSpellings, Spellings}
use Rattle.lt_answers.specs.Selection.{IsMatched, IsSelected, Selection, longest_kept}
use Rattle.lt_range.specs.declared.matching.Scheme.{Scheme}

-- ---- texts

-- a text that is to be matched, by the entries of a registry
module _ (R : List EntryParts) (text : List ℕ) where
  -- the spellings that a text has are those of the tag that it is read as
  same_tag : (tag : TagForm) → HasTag text tag → (lists : Spellings) → HasSubtags R text lists → HasSpellings R tag lists
  same_tag tag read lists h = subst (λ (t : TagForm). HasSpellings R t lists) (one_tag_of_text text h.tag tag h.read read) h.holds

  module _ (scheme : Scheme) (ranges : List RangeParts) where
    -- a text that is matched has the spellings that are matched
    has_subtags : (m : IsMatched R scheme ranges text) → HasSubtags R text m.lists
    has_subtags m = record { tag = m.tag; read = m.read; holds = m.has }

    -- a text with these spellings is matched where some range matches one of them; `matched` is what the program tells
    pub matched_as : (lists : Spellings) (matched : Bool) → MatchingIsDetermined R → HasSubtags R text lists
        → IsTrue matched ↔ AnyMatches scheme ranges lists
        → IsTrue matched ↔ IsMatched R scheme ranges text
    matched_as lists matched one reads tells = (
      λ is. record { tag = reads.tag; read = reads.read; lists = lists; has = reads.holds; matches = tells.0 is },
      λ m. tells.1
          (subst (AnyMatches scheme ranges)
          (one.list reads.tag m.lists lists (same_tag reads.tag reads.read m.lists (has_subtags m)) reads.holds)
          m.matches),
    )

    -- a text without spellings is matched by no range
    pub none_matched : HasNoSubtags R text → IsTrue false ↔ IsMatched R scheme ranges text
    none_matched none = (
      λ no. let bad : false ≡ true = no in cc,
      λ m. absurd (none m.lists (has_subtags m)),
    )

-- ---- long lines

-- A text that is a tag has at most 1,024 bytes, so a selected line has at most 1,025, with a carriage return. Of a line
-- `longest_kept`, 1,026, are kept, so the kept front of a longer line is itself too long to be a tag.

-- a line has at most one byte more than its content
pub content-length : (line : List ℕ) → length line ≤ length (content_of line) + 1
content-length line = elim (ends_with_byte 13 line) as (λ t. length line ≤ length (if t then take (length line - 1) line else line) + 1) [
  | true ↦ omega (arith, length-take-le (length line - 1) line (omega arith))
  | false ↦ omega arith
]

-- what is kept of a line tells whether the line is selected: a selected line is kept whole, and so is a line whose kept
-- front would be selected as a line
pub record TellsByFront (P : Selection) : Type 0 where
  pub short : (line : List ℕ) → P line → length line ≤ longest_kept
  pub front : (line : List ℕ) → P (take longest_kept line) → length line ≤ longest_kept

-- a line that is selected is not too long to be kept whole
pub selected_short : (R : List EntryParts) (scheme : Scheme) (ranges : List RangeParts) (line : List ℕ)
    → IsSelected R scheme ranges line → length line ≤ longest_kept
selected_short R scheme ranges line m = omega (arith, m.read.short, content-length line)

-- a line is kept whole if its kept front would be selected as a line
pub selected_front : (R : List EntryParts) (scheme : Scheme) (ranges : List RangeParts) (line : List ℕ)
    → IsSelected R scheme ranges (take longest_kept line) → length line ≤ longest_kept
selected_front R scheme ranges line m = elim (leb_tells (length line) longest_kept) [
  | inl short ↦ short.1
  | inr long ↦ absurd
      (omega (
        arith,
        m.read.short,
        content-length (take longest_kept line),
        length-take-le longest_kept line
            (omega (arith, long.1)),
      ))
]

-- what is kept of a line tells whether ranges select it
pub selected_tells : (R : List EntryParts) (scheme : Scheme) (ranges : List RangeParts) → TellsByFront (IsSelected R scheme ranges)
selected_tells R scheme ranges = record { short = selected_short R scheme ranges; front = selected_front R scheme ranges }
