-- What an upgrade from an older registry A to a newer one B keeps of tags, over their entries.
use Rattle.std.specs.Prelude.{ℕ, List}
use Rattle.lt_tag.specs.Parts.{TagForm}
use Rattle.lt_registry.specs.Parts.{EntryParts}
use Rattle.lt_registry.specs.Validity.{IsProper, IsValid}
use Rattle.lt_rewrite.specs.TagSteps.{AreEquivalent, CanRepeat}
use Rattle.lt_canon.specs.Answers.{IsCanonicalFormOf, IsNamedRepeat}

-- After an upgrade from A to B, valid tags are valid and equivalent tags equivalent. A tag and its old canonical form
-- have the same new canonical form; or steps lead from both to a tag in which a variant occurs twice, and a refusal
-- names the same variant. `t` and `u` are tags, `c` is the old canonical form of `t`, `d` a new one, and `v` a variant.
pub record UpgradeKeepsTags (A B : List EntryParts) : Type 0 where
  pub valid : (t : TagForm) → IsValid A t → IsValid B t
  pub equivalent : (t u : TagForm) → IsProper A t → IsProper A u → AreEquivalent A t u → AreEquivalent B t u
  pub form : (t c d : TagForm) → IsCanonicalFormOf A t c → IsCanonicalFormOf B t d → IsCanonicalFormOf B c d
  pub form_back : (t c d : TagForm) → IsCanonicalFormOf A t c → IsCanonicalFormOf B c d → IsCanonicalFormOf B t d
  pub repeats : (t c : TagForm) → IsCanonicalFormOf A t c → CanRepeat B t → CanRepeat B c
  pub repeats_back : (t c : TagForm) → IsCanonicalFormOf A t c → CanRepeat B c → CanRepeat B t
  pub named : (t c : TagForm) (v : List ℕ) → IsCanonicalFormOf A t c → IsNamedRepeat B t v → IsNamedRepeat B c v
