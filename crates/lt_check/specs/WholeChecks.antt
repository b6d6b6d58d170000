-- What the conditions on whole tags, C9 to C11, ask of cores in a registry that meets those before.
use Rattle.std.specs.Prelude.{ℕ, ◌≡◌, ◌≢◌, ◌<◌, ◌⊎◌, List, Some, None, All}
use Rattle.lt_tag.specs.Parts.{CoreParts, TagForm}
use Rattle.lt_registry.specs.Parts.{EntryParts}
use Rattle.lt_registry.specs.Entries.{tag_of, whole_value}
use Rattle.lt_registry.specs.Validity.{Distinct}
use Rattle.lt_registry.specs.declared.entries.EntryName.TheVariants as names
use Rattle.lt_rewrite.specs.CoreSteps.{IsCoreNormalForm}
use Rattle.lt_check.specs.Conditions.{Meets, rank_of}
use Rattle.lt_check.specs.declared.conditions.Condition.{Condition}
use Rattle.lt_tag.specs.Values.{core_alone}

-- all records meet each condition with a rank less than this
abbrev pub MeetsBelow : ℕ → List EntryParts → Type 0
MeetsBelow rank R = (other : Condition) → rank_of other < rank → All (Meets other R) R

-- no record of the whole tag has a value
abbrev pub HasNoValue : List EntryParts → TagForm → Type 0
HasNoValue R t = All (λ (f : EntryParts). f.name ≡ names.Whole t → tag_of f.value ≡ None) R

-- no variant occurs twice in a core, and the core has no value as a whole tag
abbrev pub RestsAlone : List EntryParts → CoreParts → Type 0
RestsAlone R d = Distinct d.variants × HasNoValue R (core_alone d)

-- the core `s` is `d`; or it has a value as a whole tag, whose core normal form is `d`
abbrev pub ComesTo : List EntryParts → CoreParts → CoreParts → Type 0
ComesTo R s d =
    (s ≡ d) ⊎ ((q : CoreParts) × (whole_value R (core_alone s) ≡ Some (core_alone q))
    × IsCoreNormalForm R q d)

-- if the core normal form of a tag is another core than its own, this form comes to `d`
abbrev pub Agrees : List EntryParts → TagForm → CoreParts → Type 0
Agrees R t d = (c s : CoreParts) → t ≡ core_alone c → IsCoreNormalForm R c s → s ≢ c → ComesTo R s d
