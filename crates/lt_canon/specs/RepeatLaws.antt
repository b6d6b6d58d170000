-- The law of the variants that refusals name, over the entries of a registry.
use Rattle.std.specs.Prelude.{ℕ, ◌≡◌, List}
use Rattle.lt_tag.specs.Parts.{TagForm}
use Rattle.lt_registry.specs.Parts.{EntryParts}
use Rattle.lt_registry.specs.Validity.{IsValid}
use Rattle.lt_rewrite.specs.TagSteps.{CanRepeat}
use Rattle.lt_canon.specs.Answers.{IsNamedRepeat}

-- if steps can repeat a variant of a valid tag, there is one that the refusal names, and only one
pub record RepeatsAreNamed (R : List EntryParts) : Type 0 where
  pub some : (t : TagForm) → IsValid R t → CanRepeat R t → (v : List ℕ) × IsNamedRepeat R t v
  pub one : (t : TagForm) (v w : List ℕ) → IsValid R t → IsNamedRepeat R t v → IsNamedRepeat R t w → v ≡ w
