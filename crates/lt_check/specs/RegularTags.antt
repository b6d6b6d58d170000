-- The regular grandfathered tags taken as cores, and the records that make them valid (RFC 5646, 2.2.8).
use Rattle.std.specs.Prelude.{ℕ, ◌≡◌, ◌==◌, Bool, false, List, [], ◌∷◌, Option, Some, None, codes}
use Rattle.lt_tag.specs.Parts.{CoreParts}
use Rattle.lt_registry.specs.Parts.{EntryParts}
use Rattle.lt_registry.specs.Validity.{IsProperCore, Distinct}
use Rattle.lt_rewrite.specs.Conditions.{second_entry}

-- the core of the language `l` and the extlang `x`
abbrev pub with_extlang : List ℕ → List ℕ → CoreParts
with_extlang l x = record { language = l; extlangs = x ∷ []; script = None; region = None; variants = [] }

-- the core of the language `l` and the variant `v`
abbrev pub with_variant : List ℕ → List ℕ → CoreParts
with_variant l v = record { language = l; extlangs = []; script = None; region = None; variants = v ∷ [] }

-- The regular grandfathered tags of two subtags, as cores. The one of three, zh-min-nan, has two extlangs, and is valid
-- in no registry.
abbrev pub regular_cores : List CoreParts
regular_cores =
    with_variant (codes "art") (codes "lojban") ∷ with_variant (codes "cel") (codes "gaulish")
    ∷ with_extlang (codes "no") (codes "bok") ∷ with_extlang (codes "no") (codes "nyn")
    ∷ with_variant (codes "zh") (codes "guoyu") ∷ with_variant (codes "zh") (codes "hakka")
    ∷ with_extlang (codes "zh") (codes "min") ∷ with_variant (codes "zh") (codes "xiang") ∷ []

-- the core is valid in the registry, and `e` is the entry of its second subtag
pub record Validates (R : List EntryParts) (c : CoreParts) (e : EntryParts) : Type 0 where
  pub proper : IsProperCore R c
  pub distinct : Distinct c.variants
  pub second : second_entry R c.extlangs c.variants ≡ Some e

-- the number of the record that makes a core valid; None if no record does
abbrev pub IsValidatedBy : List EntryParts → CoreParts → Option ℕ → Type 0
IsValidatedBy R c None = (e : EntryParts) → Validates R c e → ⊥
IsValidatedBy R c (Some number) = (e : EntryParts) × Validates R c e × (e.number ≡ number)

-- for each of the cores, the number of the record that makes it valid; None if no record does
abbrev pub AreValidatedBy : List EntryParts → List CoreParts → List (Option ℕ) → Type 0
AreValidatedBy R [] [] = Unit {0}
AreValidatedBy R (c ∷ cs) (o ∷ os) = IsValidatedBy R c o × AreValidatedBy R cs os
AreValidatedBy R [] (o ∷ os) = ⊥
AreValidatedBy R (c ∷ cs) [] = ⊥

-- whether there is a number, and it is `n`
abbrev pub is_number : ℕ → Option ℕ → Bool
is_number n None = false
is_number n (Some m) = m == n
