-- The canonical text of a text, and why a text has none.
use Rattle.std.specs.Prelude.{ℕ, ◌≡◌, List, ◌++◌}
use Rattle.lt_tag.specs.Parts.{TagForm}
use Rattle.lt_tag.specs.WellFormed.{spell}
use Rattle.lt_tag.specs.Conventional.{conventional}
use Rattle.lt_tag.specs.Faults.{HasTag, HasFault}
use Rattle.lt_registry.specs.Parts.{EntryParts}
use Rattle.lt_registry.specs.Faults.{IsFirstFault}
use Rattle.lt_registry.specs.Validity.{IsValid}
use Rattle.lt_rewrite.specs.TagSteps.{CanRepeat}
use Rattle.lt_canon.specs.Answers.{IsCanonicalFormOf, IsRepeatOf}
use Rattle.lt_canon.specs.declared.refusals.TextRefusal.{TextRefusal}
use Rattle.lt_canon.specs.declared.refusals.TextRefusal.TheVariants as refusals

-- the text is read as a tag, and `canonical` is the text of that tag's canonical form (RFC 5646, 2.1.1 and 4.5)
pub record IsCanonicalTextOf (R : List EntryParts) (text canonical : List ℕ) : Type 0 where
  pub tag : TagForm
  pub read : HasTag text tag
  pub form : TagForm
  pub is_form : IsCanonicalFormOf R tag form
  pub written : canonical ≡ conventional (spell form)

-- the canonical text of the text was appended to the bytes `old`, which made `new`
pub record AppendsCanonicalText (R : List EntryParts) (text old new : List ℕ) : Type 0 where
  pub canonical : List ℕ
  pub grown : new ≡ old ++ canonical
  pub is_canonical : IsCanonicalTextOf R text canonical

-- the text is read as a tag of which `P` is true
pub record ReadsAs (text : List ℕ) (P : TagForm → Type 0) : Type 0 where
  pub tag : TagForm
  pub read : HasTag text tag
  pub holds : P tag

-- why a text has no canonical text: it is no tag, or a tag that has no canonical form; OutOfMemory may be answered of
-- any text
abbrev pub IsTextRefusal : List EntryParts → List ℕ → TextRefusal → Type 0
IsTextRefusal R text (refusals.NotATag fault) = HasFault text fault.kind fault.place
IsTextRefusal R text (refusals.Invalid fault) = ReadsAs text (λ tag. IsFirstFault R tag fault.kind fault.place)
IsTextRefusal R text (refusals.ReplacementRepeats variant) = ReadsAs text (λ tag. IsRepeatOf R tag variant)
IsTextRefusal R text refusals.OutOfMemory = Unit {0}

-- A text is refused only if it is read as no tag, as a tag that is not valid, or as a valid tag of which steps can
-- repeat a variant (RFC 5646, 4.5 and 2.2.5). OutOfMemory may be answered of any text.
abbrev pub RefusesTextOnlyRepeats : List EntryParts → List ℕ → TextRefusal → Type 0
RefusesTextOnlyRepeats R text (refusals.NotATag fault) = (tag : TagForm) → HasTag text tag → ⊥
RefusesTextOnlyRepeats R text (refusals.Invalid fault) = (tag : TagForm) × HasTag text tag × (IsValid R tag → ⊥)
RefusesTextOnlyRepeats R text (refusals.ReplacementRepeats v) =
    (tag : TagForm) × HasTag text tag × IsValid R tag × CanRepeat R tag
RefusesTextOnlyRepeats R text refusals.OutOfMemory = Unit {0}
