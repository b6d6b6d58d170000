-- The law of extlang forms, over the entries of a registry.
use Rattle.std.specs.Prelude.{List}
use Rattle.lt_tag.specs.Parts.{TagForm}
use Rattle.lt_registry.specs.Parts.{EntryParts}
use Rattle.lt_registry.specs.Validity.{IsValid}
use Rattle.lt_rewrite.specs.TagSteps.{IsReached, IsCanonical}
use Rattle.lt_canon.specs.ExtlangForm.{extlang_form}

-- the extlang form of a canonical tag is valid, and the tag is reached from it
pub record LeadsBack (R : List EntryParts) (c : TagForm) : Type 0 where
  pub valid : IsValid R (extlang_form R c)
  pub reached : IsReached R (extlang_form R c) c

-- each canonical tag is reached from its extlang form, which is valid
abbrev pub ExtlangFormsLeadBack : List EntryParts → Type 0
ExtlangFormsLeadBack R = (c : TagForm) → IsCanonical R c → LeadsBack R c
