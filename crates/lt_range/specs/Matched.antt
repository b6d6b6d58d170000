-- How ranges match tags, both in each of their spellings (RFC 4647, 3). The first of these are extlang forms, which are
-- for environments "where the presence of the 'Prefix' subtag is considered beneficial in matching or selection" (RFC
-- 5646, 4.5): `zh` finds `yue`, which is `zh-yue`.
use Rattle.std.specs.Prelude.{ℕ, ◌≡◌, ◌⊎◌, Bool, true, false, List, [], ◌∷◌, ◌++◌, map, Ok}
use Rattle.lt_tag.specs.Parts.{TagForm}
use Rattle.lt_tag.specs.Faults.{HasTag}
use Rattle.lt_registry.specs.Parts.{EntryParts}
use Rattle.lt_registry.specs.Validity.{IsValid}
use Rattle.lt_canon.specs.Texts.{ReadsAs}
use Rattle.lt_range.specs.Ranges.{RangeParts, range_of_tag}
use Rattle.lt_range.specs.Reading.{range_of}
use Rattle.lt_range.specs.Spellings.{HasSpellings, MatchesSome, Spellings, first_of}
use Rattle.lt_range.specs.Matching.{MatchesBy}
use Rattle.lt_range.specs.declared.matching.Scheme.{Scheme}

-- the text is a tag that has an extlang form, and `lists` are its spellings
abbrev pub HasSubtags : List EntryParts → List ℕ → Spellings → Type 0
HasSubtags R text lists = ReadsAs text (λ tag. HasSpellings R tag lists)

-- the text is no tag that has an extlang form
abbrev pub HasNoSubtags : List EntryParts → List ℕ → Type 0
HasNoSubtags R text = (lists : Spellings) → HasSubtags R text lists → ⊥

-- the text is no valid tag
abbrev pub IsNoValidTag : List EntryParts → List ℕ → Type 0
IsNoValidTag R text = (tag : TagForm) → HasTag text tag → IsValid R tag → ⊥

-- the text is a tag that has an extlang form, and `ranges` are those of its spellings
pub record AreRangesOfTag (R : List EntryParts) (text : List ℕ) (ranges : List RangeParts) : Type 0 where
  pub lists : Spellings
  pub has : HasSubtags R text lists
  pub are : ranges ≡ map range_of_tag lists

-- The range that matches in place of one that is no valid tag: its first subtag, if that by itself is a tag that has an
-- extlang form, stands for the subtags of this form. So `iw-*` finds `he-IL`, and `yue-*` finds `zh-yue-HK` (no RFC
-- asks for that: it is a rule of this project). The arguments are the entries, whether the range begins with `*`, its
-- other subtags, and the range that matches.
abbrev pub MatchesAs : List EntryParts → Bool → List (List ℕ) → RangeParts → Type 0
MatchesAs R true named range = range ≡ record { wild = true; named = named }
MatchesAs R false [] range = range ≡ range_of_tag []
MatchesAs R false (s ∷ ss) range =
    ((lists : Spellings) × HasSubtags R s lists × (range ≡ range_of_tag (first_of lists ++ ss)))
    ⊎ (HasNoSubtags R s × (range ≡ range_of_tag (s ∷ ss)))

-- the text is a range (RFC 4647, 2.2), and `range` is the one that matches in its place
pub record IsRangeOfText (R : List EntryParts) (text : List ℕ) (range : RangeParts) : Type 0 where
  pub written : RangeParts
  pub read : range_of text ≡ Ok written
  pub matches : MatchesAs R written.wild written.named range

-- The ranges by which a text matches: for a valid tag those of its spellings, and for another text the range that it is,
-- with its first subtag in its extlang form (no RFC asks for that: it is a rule of this project).
abbrev pub AreRangesOf : List EntryParts → List ℕ → List RangeParts → Type 0
AreRangesOf R text ranges = AreRangesOfTag R text ranges
    ⊎ (IsNoValidTag R text × ((range : RangeParts) × (ranges ≡ range ∷ []) × IsRangeOfText R text range))

-- one of the ranges matches one of the spellings of a tag by a scheme
abbrev pub AnyMatches : Scheme → List RangeParts → Spellings → Type 0
AnyMatches scheme [] lists = ⊥
AnyMatches scheme (range ∷ ranges) lists = MatchesSome (MatchesBy scheme) range lists ⊎ AnyMatches scheme ranges lists

-- a text matches a tag as a range, in some spelling of each
pub record MatchesTag (R : List EntryParts) (scheme : Scheme) (text : List ℕ) (tag : TagForm) : Type 0 where
  pub ranges : List RangeParts
  pub are_ranges : AreRangesOf R text ranges
  pub lists : Spellings
  pub has : HasSpellings R tag lists
  pub matches : AnyMatches scheme ranges lists
