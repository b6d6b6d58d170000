-- The laws of matching ranges and tags, over the entries of a registry.
use Rattle.std.specs.Prelude.{ℕ, ◌≡◌, ◌<◌, List, length}
use Rattle.lt_tag.specs.Parts.{TagForm}
use Rattle.lt_tag.specs.WellFormed.{spell}
use Rattle.lt_tag.specs.Faults.{HasTag}
use Rattle.lt_registry.specs.Parts.{EntryParts}
use Rattle.lt_registry.specs.Validity.{IsValid}
use Rattle.lt_rewrite.specs.TagSteps.{AreEquivalent}
use Rattle.lt_range.specs.Ranges.{RangeParts, range_of_tag}
use Rattle.lt_range.specs.Available.{AreAvailable, text_at}
use Rattle.lt_range.specs.Matched.{AreRangesOf, MatchesTag}
use Rattle.lt_range.specs.Matching.{MatchesBy}
use Rattle.lt_range.specs.Spellings.{HasSpellings, Spellings}
use Rattle.lt_range.specs.declared.matching.Scheme.{Scheme}

-- equivalent tags match the same ranges: a range that matches a tag matches each valid tag equivalent to it
abbrev pub EquivalentTagsMatchAlike : List EntryParts → Type 0
EquivalentTagsMatchAlike R = (scheme : Scheme) (text : List ℕ) (t u : TagForm) → IsValid R u
    → AreEquivalent R t u → MatchesTag R scheme text t → MatchesTag R scheme text u

-- the ranges of equivalent valid tags match the same tags: the text `a` is read as `t`, and `b` as `u`, and `v` is a
-- tag that `a` matches as a range
abbrev pub EquivalentRangesMatchAlike : List EntryParts → Type 0
EquivalentRangesMatchAlike R = (scheme : Scheme) (a b : List ℕ) (t u v : TagForm) → HasTag a t → HasTag b u
    → IsValid R t → IsValid R u → AreEquivalent R t u → MatchesTag R scheme a v → MatchesTag R scheme b v

-- a valid tag that is equivalent to `t`, as a range, matches a valid tag that is equivalent to `u`, each as it is
-- written (RFC 4647, 3)
pub record MatchesAsSpelled (R : List EntryParts) (scheme : Scheme) (t u : TagForm) : Type 0 where
  pub range : TagForm
  pub range_valid : IsValid R range
  pub range_equivalent : AreEquivalent R t range
  pub tag : TagForm
  pub tag_valid : IsValid R tag
  pub tag_equivalent : AreEquivalent R u tag
  pub matches : MatchesBy scheme (range_of_tag (spell range)) (spell tag)

-- if a range that is a valid tag matches a tag, some valid tags that are equivalent to the two match as they are
-- written
abbrev pub MatchesOnlyAsSpelled : List EntryParts → Type 0
MatchesOnlyAsSpelled R = (scheme : Scheme) (text : List ℕ) (t u : TagForm) → HasTag text t → IsValid R t
    → MatchesTag R scheme text u → MatchesAsSpelled R scheme t u

-- the entries determine the spellings of a tag, and the ranges by which a text matches
pub record MatchingIsDetermined (R : List EntryParts) : Type 0 where
  pub list : (t : TagForm) (a b : Spellings) → HasSpellings R t a → HasSpellings R t b → a ≡ b
  pub range : (text : List ℕ) (a b : List RangeParts) → AreRangesOf R text a → AreRangesOf R text b → a ≡ b

-- a text is read as a valid tag, and another text as a valid tag that is equivalent to it
pub record AreEquivalentTexts (R : List EntryParts) (a b : List ℕ) : Type 0 where
  pub tag : TagForm
  pub read : HasTag a tag
  pub other : TagForm
  pub read_other : HasTag b other
  pub valid : IsValid R other
  pub equivalent : AreEquivalent R tag other

-- the lists have as many texts, and each text is equivalent to the one at the same place in the other list
pub record AreSpelledAlike (R : List EntryParts) (texts others : List (List ℕ)) : Type 0 where
  pub as_many : length texts ≡ length others
  pub each : (place : ℕ) → place < length others → AreEquivalentTexts R (text_at texts place) (text_at others place)

-- The tag to serve, and the tags that are accepted, do not depend on how the tags of a list are spelled: the lists of
-- tags that are equivalent one by one are equal.
abbrev pub EquivalentListsServeAlike : List EntryParts → Type 0
EquivalentListsServeAlike R = (texts others : List (List ℕ)) (a b : List Spellings) → AreSpelledAlike R texts others
    → AreAvailable R texts (length texts) a → AreAvailable R others (length others) b → a ≡ b
