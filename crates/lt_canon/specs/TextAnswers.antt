-- What is answered of texts that are read as tags, other than their canonical texts.
use Rattle.std.specs.Prelude.{ℕ, ◌≡◌, ◌⊎◌, Bool, List}
use Rattle.lt_tag.specs.Conventional.{conventional}
use Rattle.lt_tag.specs.Faults.{HasFault, HasTag}
use Rattle.lt_tag.specs.Parts.{TagForm}
use Rattle.lt_tag.specs.WellFormed.{spell}
use Rattle.lt_registry.specs.Faults.{IsFirstFault}
use Rattle.lt_registry.specs.Parts.{EntryParts}
use Rattle.lt_canon.specs.Equivalence.{IsEquivalenceAnswer, IsFirstRefusal}
use Rattle.lt_canon.specs.ExtlangForm.{IsExtlangFormOf}
use Rattle.lt_canon.specs.Texts.{ReadsAs}
use Rattle.lt_canon.specs.declared.refusals.Refusal.TheVariants as tag_refusals
use Rattle.lt_canon.specs.declared.refusals.TextRefusal.{TextRefusal}
use Rattle.lt_canon.specs.declared.refusals.TextRefusal.TheVariants as refusals

-- why a text is not that of a valid tag (RFC 5646, 2.2.9); OutOfMemory may be answered of any text
abbrev pub IsValidityRefusal : List EntryParts → List ℕ → TextRefusal → Type 0
IsValidityRefusal R text (refusals.NotATag fault) = HasFault text fault.kind fault.place
IsValidityRefusal R text (refusals.Invalid fault) = ReadsAs text (λ tag. IsFirstFault R tag fault.kind fault.place)
IsValidityRefusal R text (refusals.ReplacementRepeats variant) = ⊥
IsValidityRefusal R text refusals.OutOfMemory = Unit {0}

-- the text is read as a tag, and `extlang` is the text of its extlang form (RFC 5646, 4.5)
pub record IsExtlangTextOf (R : List EntryParts) (text extlang : List ℕ) : Type 0 where
  pub tag : TagForm
  pub read : HasTag text tag
  pub form : TagForm
  pub is_form : IsExtlangFormOf R tag form
  pub written : extlang ≡ conventional (spell form)

-- the texts are read as tags, and `answer` is whether these are equivalent
pub record IsEqualityOf (R : List EntryParts) (first second : List ℕ) (answer : Bool) : Type 0 where
  pub tag : TagForm
  pub read : HasTag first tag
  pub other : TagForm
  pub read_other : HasTag second other
  pub is_answer : IsEquivalenceAnswer R tag other answer

-- Why two texts are not compared: the first is no tag, or else the second is none, or one of the tags has no canonical
-- form. OutOfMemory may be answered of any two texts.
abbrev pub IsPairRefusal : List EntryParts → List ℕ → List ℕ → TextRefusal → Type 0
IsPairRefusal R first second (refusals.NotATag fault) =
    HasFault first fault.kind fault.place ⊎ ReadsAs first (λ tag. HasFault second fault.kind fault.place)
IsPairRefusal R first second (refusals.Invalid fault) =
    ReadsAs first (λ tag. ReadsAs second (λ other. IsFirstRefusal R tag other (tag_refusals.Invalid fault)))
IsPairRefusal R first second (refusals.ReplacementRepeats variant) =
    ReadsAs first (λ tag. ReadsAs second
    (λ other. IsFirstRefusal R tag other (tag_refusals.ReplacementRepeats variant)))
IsPairRefusal R first second refusals.OutOfMemory = Unit {0}
