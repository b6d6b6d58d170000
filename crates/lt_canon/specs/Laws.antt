-- The laws of canonical tags, over the entries of a registry. What follows from them is in Corollaries.
use Rattle.std.specs.Prelude.{ℕ, ◌≡◌, ◌≤◌, ◌⊎◌, ◌↔◌, List, length}
use Rattle.lt_tag.specs.Parts.{TagForm}
use Rattle.lt_tag.specs.WellFormed.{spell}
use Rattle.lt_tag.specs.Conventional.{conventional}
use Rattle.lt_registry.specs.Parts.{EntryParts}
use Rattle.lt_registry.specs.Validity.{IsProper, IsValid}
use Rattle.lt_rewrite.specs.Rewriting.{Rests, IsConfluent}
use Rattle.lt_rewrite.specs.TagSteps.{TagStep, IsReached, AreEquivalent, CanRepeat}
use Rattle.lt_canon.specs.Answers.{IsCanonicalFormOf}
use Rattle.lt_canon.specs.Texts.{IsCanonicalTextOf}
use Rattle.lt_tag.specs.Lists.{longest_text}

-- from any two tags that steps reach from one proper tag, steps reach a common third
abbrev pub StepsAreConfluent : List EntryParts → Type 0
StepsAreConfluent R = IsConfluent (IsProper R) (TagStep R)

-- Each proper tag has an end: steps reach it, each step leads to a tag that has the same end, and no step leads from
-- the end.
pub record HasEndForms (R : List EntryParts) : Type 0 where
  pub end : TagForm → TagForm
  pub kept : (t u : TagForm) → TagStep R t u → end t ≡ end u
  pub reached : (t : TagForm) → IsProper R t → IsReached R t (end t)
  pub at_rest : (t : TagForm) → Rests (TagStep R) (end t)

-- a valid tag has a canonical form, or steps can repeat a variant of it (RFC 5646, 4.5 and 2.2.5)
abbrev pub CanonicalOrRepeats : List EntryParts → Type 0
CanonicalOrRepeats R = (t : TagForm) → IsValid R t → ((c : TagForm) × IsCanonicalFormOf R t c) ⊎ CanRepeat R t

-- valid tags of which steps can repeat no variant are equivalent exactly if the texts of their canonical forms are
-- equal (RFC 5646, 4.5)
abbrev pub EquivalenceIsEqualText : List EntryParts → Type 0
EquivalenceIsEqualText R = (t u c d : TagForm) → IsCanonicalFormOf R t c → IsCanonicalFormOf R u d →
    AreEquivalent R t u ↔ (conventional (spell c) ≡ conventional (spell d))

-- a canonical form is its own canonical form, and has no other (RFC 5646, 4.5)
abbrev pub CanonicalTwiceIsOnce : List EntryParts → Type 0
CanonicalTwiceIsOnce R = (t c : TagForm) → IsCanonicalFormOf R t c →
    IsCanonicalFormOf R c c × ((d : TagForm) → IsCanonicalFormOf R c d → d ≡ c)

-- a canonical text that is not too long to be read (`longest_text`: 1,024 bytes) is its own canonical text, and has no
-- other (RFC 5646, 4.5)
abbrev pub CanonicalTextTwiceIsOnce : List EntryParts → Type 0
CanonicalTextTwiceIsOnce R =
    (text canonical : List ℕ) → IsCanonicalTextOf R text canonical → length canonical ≤ longest_text →
    IsCanonicalTextOf R canonical canonical × ((u : List ℕ) → IsCanonicalTextOf R canonical u → u ≡ canonical)
