-- Whether two tags are equivalent, or why one of them is refused.
use Rattle.std.specs.Prelude.{◌≡◌, ◌⊎◌, ◌↔◌, Bool, IsTrue, List}
use Rattle.lt_tag.specs.Parts.{TagForm}
use Rattle.lt_tag.specs.WellFormed.{spell}
use Rattle.lt_tag.specs.Conventional.{conventional}
use Rattle.lt_registry.specs.Parts.{EntryParts}
use Rattle.lt_rewrite.specs.TagSteps.{AreEquivalent}
use Rattle.lt_canon.specs.Answers.{IsCanonicalFormOf}
use Rattle.lt_canon.specs.Refusals.{IsRefusedWith}
use Rattle.lt_canon.specs.declared.refusals.Refusal.{Refusal}

-- Both tags have canonical forms. The answer is whether the tags are equivalent, and so whether the forms are equal,
-- and whether the forms' texts are.
pub record IsEquivalenceAnswer (R : List EntryParts) (t u : TagForm) (answer : Bool) : Type 0 where
  pub first : TagForm
  pub second : TagForm
  pub first_form : IsCanonicalFormOf R t first
  pub second_form : IsCanonicalFormOf R u second
  pub equivalent : IsTrue answer ↔ AreEquivalent R t u
  pub equal : IsTrue answer ↔ (first ≡ second)
  pub equal_texts : IsTrue answer ↔ (conventional (spell first) ≡ conventional (spell second))

-- the refusal of the second tag `u`, where the first, `t`, has a canonical form
pub record IsSecondRefusal (R : List EntryParts) (t u : TagForm) (refusal : Refusal) : Type 0 where
  pub first : TagForm
  pub first_form : IsCanonicalFormOf R t first
  pub refused : IsRefusedWith R u refusal

-- the refusal of the first tag, or, where that has a canonical form, of the second
abbrev pub IsFirstRefusal : List EntryParts → TagForm → TagForm → Refusal → Type 0
IsFirstRefusal R t u refusal = IsRefusedWith R t refusal ⊎ IsSecondRefusal R t u refusal
