-- What calls of the C library answer of texts that are read as tags.
use Rattle.std.specs.Prelude.{ℕ, ◌≡◌, List, length}
use Rattle.lt_tag.specs.Faults.{HasFault, HasTag}
use Rattle.lt_tag.specs.Parts.{TagForm}
use Rattle.lt_registry.specs.Faults.{HasNoFault}
use Rattle.lt_registry.specs.Parts.{EntryParts}
use Rattle.lt_rewrite.specs.declared.steps.Step.{Step}
use Rattle.lt_canon.specs.Explaining.{IsExplanation}
use Rattle.lt_canon.specs.Texts.{ReadsAs}
use Rattle.lt_canon.specs.declared.refusals.TextRefusal.{TextRefusal}
use Rattle.lt_canon.specs.declared.refusals.TextRefusal.TheVariants as refusals

-- why the text is no tag; OutOfMemory may be answered for any text
abbrev pub IsReadingRefusal : List ℕ → TextRefusal → Type 0
IsReadingRefusal text (refusals.NotATag fault) = HasFault text fault.kind fault.place
IsReadingRefusal text (refusals.Invalid fault) = ⊥
IsReadingRefusal text (refusals.ReplacementRepeats variant) = ⊥
IsReadingRefusal text refusals.OutOfMemory = Unit {0}

-- the text is read as a valid tag (RFC 5646, 2.2.9)
abbrev pub IsValidText : List EntryParts → List ℕ → Type 0
IsValidText R text = ReadsAs text (HasNoFault R)

-- the text is read as a tag, and `count` is the number of steps of its explanation, which lead to its canonical form
-- (RFC 5646, 4.5)
pub record IsStepCount (R : List EntryParts) (text : List ℕ) (count : ℕ) : Type 0 where
  pub tag : TagForm
  pub read : HasTag text tag
  pub steps : List Step
  pub end : TagForm
  pub is_explanation : IsExplanation R tag steps end
  pub counted : count ≡ length steps
