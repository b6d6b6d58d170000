-- Lemmas for `serve_line`: with one line more, the lines that are kept are still those that are tags; and the line of
-- the best tag is the one that is served.
use Rattle.std.proofs.Common.{◌≡◌, ◌<◌, ◌≤◌, ◌++◌, ◌∷◌, ◌∙◌, inl, inr, ℕ, Bool, true, false, List, [], Option, Some}
use Rattle.std.proofs.Common.{None, Vec, length, take, sym, ap, subst, arith}
use Rattle.std.proofs.Common.{length-take-le, option_map, take_all}
use Rattle.std.proofs.lemmas.Bool.Decides.{leb_tells}
use Rattle.std.proofs.lemmas.List.{length-map}
use Rattle.std.proofs.lemmas.Option.{slice_get-map, slice_get_cases}
use Rattle.std.specs.List.{slice_get}
use Rattle.std.specs.declared.alloc.Global.{Global}
use Rattle.lt_jar.specs.Lines.{content_of}
use Rattle.lt_registry.specs.Parts.{EntryParts}
use Rattle.lt_range.specs.Matched.{HasNoSubtags, HasSubtags}
use Rattle.lt_range.specs.Preferences.{FirstServes, IsBest}
use Rattle.lt_range.specs.Spellings.{Spellings}
use Rattle.lt_range.specs.declared.preferences.Preference.{Preference}
use Rattle.lt_answers.specs.Selection.{longest_kept}
use Rattle.lt_answers.specs.Served.{AreTagLines, IsTagLine, PutsLine, ServesOf, TakesTag, texts_of}
use Rattle.lt_answers.proofs.ClosestLemmas.{lines_more, same_count}
use Rattle.lt_answers.proofs.MatchedLemmas.{TellsByFront, content-length}
use Rattle.lt_answers.proofs.SelectionLemmas.{selected_no, selected_yes}

-- ---- lines that are tags

-- a line whose kept front is a tag is kept whole
front_short : (R : List EntryParts) (line : List ℕ) → IsTagLine R (take longest_kept line) → length line ≤ longest_kept
front_short R line is = elim (leb_tells (length line) longest_kept) [
  | inl short ↦ short.1
  | inr long ↦
      let cut = length-take-le longest_kept line (omega (arith, long.1)) in
      absurd (omega (arith, is.1.read.short, content-length (take longest_kept line), cut))
]

-- what is kept of a line tells whether it is a tag
tag_tells : (R : List EntryParts) → TellsByFront (IsTagLine R)
tag_tells R = record {
  short = λ line is. omega (arith, is.1.read.short, content-length line);
  front = front_short R;
}

-- `kept` is what is kept of a further line; before it `old` are the lines that are tags, and `tags` their spellings
module _ (R : List EntryParts) (kept : List ℕ) (old : List (Vec ℕ Global)) (tags : List Spellings) where
  -- if a further line is a tag, and is put after the others, these are the lines that are tags
  pub takes_tag : (new : List (Vec ℕ Global)) (tags' : List Spellings) (list : Spellings)
      → HasSubtags R (content_of kept) list → PutsLine kept list old new tags tags' → TakesTag R kept old new tags tags'
  takes_tag new tags' list has puts = λ lines line is before.
      let short = front_short R line (subst (IsTagLine R) is (list, has)) in
      let whole : kept ≡ line = is ∙ take_all longest_kept line short in
      subst (λ (l : List ℕ). AreTagLines R (lines ++ l ∷ []) (texts_of new) tags') whole
      (rw (puts.lines, puts.lists) (record {
        are = selected_yes (IsTagLine R) lines (texts_of old) kept before.are (list, has);
        have = lines_more R (texts_of old) tags kept list before.have (inl has);
      }))

  -- a further line that is no tag changes nothing
  pub takes_no_tag : HasNoSubtags R (content_of kept) → TakesTag R kept old old tags tags
  takes_no_tag none = λ lines line is before. record {
    are = selected_no (IsTagLine R) lines (texts_of old) line before.are (λ tag.
        let whole : kept ≡ line = is ∙ take_all longest_kept line ((tag_tells R).short line tag) in
        none tag.0 (subst (λ (l : List ℕ). HasSubtags R (content_of l) tag.0) (sym whole) tag.1));
    have = before.have;
  }

-- ---- the line that is served

-- the tags, of which preferences serve one
module _ (all : List Preference) (tags : List Spellings) where
  -- the tag that is served in a turn is one of the tags
  turn_within : (wild : Bool) (place : ℕ) → FirstServes wild all tags place → place < length tags
  turn_within wild place f = elim f.serves [
    | inl serves ↦ elim serves.1 [
      | inl falls ↦
          let same : Some place ≡ Some falls.0 = falls.2 in
          let here : place ≡ falls.0 = cc in
          omega (arith, here, falls.1.within)
      | inr selects ↦ selects.1.within
    ]
    | inr none ↦ let bad : Some place ≡ None = none.1 in cc
  ]

  -- the tag that is best is one of the tags
  best_within : (place : ℕ) → IsBest all tags (Some place) → place < length tags
  best_within place (inl first) =
      let same : Some place ≡ Some first.0 = first.2 in
      let here : place ≡ first.0 = cc in
      omega (arith, here, turn_within false first.0 first.1)
  best_within place (inr other) = turn_within true place other.1

  -- the lines with these tags
  module _ (kept : List (Vec ℕ Global)) where
    -- if no tag is best, no line is served
    pub serves_none : IsBest all tags None → ServesOf all kept tags None
    serves_none none = λ R lines are. record { tags = texts_of kept; lists = tags; are = are; none = none }

    -- the line of the best tag is served
    pub serves_best : (place : ℕ) (found : Option (Vec ℕ Global)) → IsBest all tags (Some place)
        → found ≡ slice_get kept place → ServesOf all kept tags found
    serves_best place found best is = λ R lines are. elim (slice_get_cases kept place).1 [
      | inl here ↦
          let items : Vec ℕ Global → List ℕ = λ line. line.items in
          rw (is, here.2) (record {
            tags = texts_of kept;
            lists = tags;
            are = are;
            place = place;
            best = best;
            there = slice_get-map items kept place ∙ ap (option_map items) here.2;
          })
      | inr past ↦
          let many = length-map kept (λ (line : Vec ℕ Global). line.items) in
          absurd (omega (arith, past.0, best_within place best, same_count R (texts_of kept) tags are.have, many))
    ]
