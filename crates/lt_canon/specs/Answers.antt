-- The canonical form of a tag (RFC 5646, 4.5), and the variant that is named where steps can repeat one.
use Rattle.std.specs.Prelude.{ℕ, ◌≡◌, ◌⊎◌, List, ◌∷◌, ◌++◌}
use Rattle.lt_tag.specs.Parts.{CoreParts, ExtensionParts, TagForm, LangTag, PrivateUse, Grandfathered}
use Rattle.lt_registry.specs.Parts.{EntryParts}
use Rattle.lt_registry.specs.Validity.{IsValid, Distinct}
use Rattle.lt_registry.specs.Faults.{HasSource}
use Rattle.lt_rewrite.specs.CoreSteps.{IsCoreNormalForm}
use Rattle.lt_rewrite.specs.TagSteps.{IsReached, IsCanonical, CanRepeat}
use Rattle.lt_canon.specs.declared.refusals.Refusal.{Refusal}
use Rattle.lt_canon.specs.declared.refusals.Refusal.TheVariants as refusals

-- from left to right, `v` is the first of the variants that occurs a second time
pub record IsSecondOccurrence (variants : List (List ℕ)) (v : List ℕ) : Type 0 where
  pub before : List (List ℕ)
  pub between : List (List ℕ)
  pub after : List (List ℕ)
  pub there : variants ≡ before ++ v ∷ (between ++ v ∷ after)
  pub first : Distinct (before ++ v ∷ between)

-- `v` is the first variant that occurs a second time in the core normal form of `c`
pub record IsRepeatOfCore (R : List EntryParts) (c : CoreParts) (v : List ℕ) : Type 0 where
  pub form : CoreParts
  pub normal : IsCoreNormalForm R c form
  pub second : IsSecondOccurrence form.variants v

-- `v` is the first variant that occurs a second time in the core normal form of the source of one of the extensions
pub record IsRepeatOfSource (R : List EntryParts) (es : List ExtensionParts) (v : List ℕ) : Type 0 where
  pub before : List ExtensionParts
  pub extension : ExtensionParts
  pub after : List ExtensionParts
  pub there : es ≡ before ++ extension ∷ after
  pub source : CoreParts
  pub has_source : HasSource extension source
  pub repeat : IsRepeatOfCore R source v

-- no variant occurs twice in the core normal form of `c`
pub record HasDistinctForm (R : List EntryParts) (c : CoreParts) : Type 0 where
  pub form : CoreParts
  pub normal : IsCoreNormalForm R c form
  pub distinct : Distinct form.variants

-- the variant that a refusal names: the first repeated one in the core normal form of the core, or, where none is, of a
-- source
abbrev pub IsNamedRepeat : List EntryParts → TagForm → List ℕ → Type 0
IsNamedRepeat R (LangTag c es ps) v = IsRepeatOfCore R c v ⊎ (HasDistinctForm R c × IsRepeatOfSource R es v)
IsNamedRepeat R (PrivateUse ps) v = ⊥
IsNamedRepeat R (Grandfathered n) v = ⊥

-- `c` is the canonical form of `t`: it is canonical and reached from `t`, which is valid and of which steps can repeat
-- no variant (RFC 5646, 4.5 and 2.2.5)
pub record IsCanonicalFormOf (R : List EntryParts) (t c : TagForm) : Type 0 where
  pub valid : IsValid R t
  pub canonical : IsCanonical R c
  pub reached : IsReached R t c
  pub repeats_none : CanRepeat R t → ⊥

-- the tag is valid, steps can repeat a variant of it, and `v` is the one that a refusal names
pub record IsRepeatOf (R : List EntryParts) (t : TagForm) (v : List ℕ) : Type 0 where
  pub valid : IsValid R t
  pub repeats : CanRepeat R t
  pub named : IsNamedRepeat R t v

-- A valid tag is refused only if steps can repeat a variant of it (RFC 5646, 4.5 and 2.2.5). OutOfMemory may be
-- answered of any tag.
abbrev pub RefusesOnlyRepeats : List EntryParts → TagForm → Refusal → Type 0
RefusesOnlyRepeats R t (refusals.Invalid fault) = IsValid R t → ⊥
RefusesOnlyRepeats R t (refusals.ReplacementRepeats v) = IsValid R t × CanRepeat R t
RefusesOnlyRepeats R t refusals.OutOfMemory = Unit {0}
