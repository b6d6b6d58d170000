-- What follows from the laws of canonical tags, over the entries of a registry.
use Rattle.std.specs.Prelude.{◌≡◌, List}
use Rattle.lt_tag.specs.Parts.{TagForm}
use Rattle.lt_registry.specs.Parts.{EntryParts}
use Rattle.lt_registry.specs.Validity.{IsValid}
use Rattle.lt_rewrite.specs.TagSteps.{AreEquivalent, IsCanonical, CanRepeat}
use Rattle.lt_canon.specs.Answers.{IsCanonicalFormOf}

-- canonical tags that are equivalent are equal
abbrev pub OneCanonicalTag : List EntryParts → Type 0
OneCanonicalTag R = (a b : TagForm) → IsCanonical R a → IsCanonical R b → AreEquivalent R a b → a ≡ b

-- a valid tag of which steps can repeat a variant is equivalent to no canonical tag
abbrev pub RepeatsHaveNoForm : List EntryParts → Type 0
RepeatsHaveNoForm R = (t c : TagForm) → IsValid R t → CanRepeat R t → IsCanonical R c → AreEquivalent R t c → ⊥

-- of two equivalent valid tags, steps can repeat a variant of both or of neither
abbrev pub RepeatTogether : List EntryParts → Type 0
RepeatTogether R = (t u : TagForm) → IsValid R t → IsValid R u → AreEquivalent R t u → CanRepeat R t → CanRepeat R u

-- two valid tags of which steps can repeat no variant are equivalent exactly if their canonical forms are equal: `c`
-- and `d` are those of `t` and `u`
pub record EquivalenceIsEquality (R : List EntryParts) : Type 0 where
  pub equal : (t u c d : TagForm) → IsCanonicalFormOf R t c → IsCanonicalFormOf R u d → AreEquivalent R t u → c ≡ d
  pub equivalent : (t u c : TagForm) → IsCanonicalFormOf R t c → IsCanonicalFormOf R u c → AreEquivalent R t u
