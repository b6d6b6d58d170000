-- If texts are read as tags, and a tag is refused, that is the refusal of the texts: of two texts that are compared for
-- equivalence, and of a text that is tested for validity. The crates above need this.
use Rattle.std.proofs.Common.{ℕ, List}
use Rattle.lt_tag.specs.Faults.{HasTag}
use Rattle.lt_tag.specs.Parts.{TagForm}
use Rattle.lt_registry.specs.Faults as validity
use Rattle.lt_registry.specs.Parts.{EntryParts}
use Rattle.lt_registry.specs.declared.faults.ValidRefusal.{ValidRefusal}
use Rattle.lt_registry.specs.declared.faults.ValidRefusal.TheVariants as checks
use Rattle.lt_canon.specs.Equivalence.{IsFirstRefusal}
use Rattle.lt_canon.specs.Refusals.{of_refusal, of_valid}
use Rattle.lt_canon.specs.TextAnswers.{IsPairRefusal, IsValidityRefusal}
use Rattle.lt_canon.specs.declared.refusals.Refusal.{Refusal}
use Rattle.lt_canon.specs.declared.refusals.Refusal.TheVariants as refusals

-- if two texts are read as tags `t` and `u`, and one of these is refused, that is the refusal of the pair of texts
pub pair_refused : (R : List EntryParts) (first second : List ℕ) (t u : TagForm) (refusal : Refusal) → HasTag first t → HasTag second u
    → IsFirstRefusal R t u refusal → IsPairRefusal R first second (of_refusal refusal)
pair_refused R first second t u (refusals.Invalid fault) p q owed =
    record { tag = t; read = p; holds = record { tag = u; read = q; holds = owed } }
pair_refused R first second t u (refusals.ReplacementRepeats v) p q owed =
    record { tag = t; read = p; holds = record { tag = u; read = q; holds = owed } }
pair_refused R first second t u refusals.OutOfMemory p q owed = tt

-- if the text is read as a tag `t`, and `validate` refuses this, that is the refusal of the text
pub validity_refused : (R : List EntryParts) (text : List ℕ) (t : TagForm) (refused : ValidRefusal) → HasTag text t
    → validity.IsRefusal R t refused → IsValidityRefusal R text (of_refusal (of_valid refused))
validity_refused R text t (checks.Fault fault) p owed = record { tag = t; read = p; holds = owed }
validity_refused R text t checks.OutOfMemory p owed = tt
