-- The steps that explain a canonical form, each the first that leads on: Extlang, Language, Script, Region, the
-- leftmost Variant and VariantLanguage on the core; Whole; the leftmost SwapExtensions; in a u extension the leftmost
-- DropAttribute, SwapAttributes, DropKeyword, SwapKeywords and DropTrue; the steps on a core on the source of a t
-- extension; the leftmost SwapFields.
use Rattle.std.specs.Prelude.{ℕ, ◌≡◌, ◌+◌, nat_le, ◌&&◌, Bool, false, if◌then◌else◌, List, Some, length}
use Rattle.lt_tag.specs.Parts.{CoreParts, TagForm, LangTag, PrivateUse, Grandfathered}
use Rattle.lt_tag.specs.Spelling.{spell_core}
use Rattle.lt_tag.specs.Values.{core_of}
use Rattle.lt_registry.specs.Parts.{EntryParts}
use Rattle.lt_rewrite.specs.Rewriting.{Rests}
use Rattle.lt_rewrite.specs.TagSteps.{TagStep}
use Rattle.lt_rewrite.specs.Labels.{LeadsBy, IsTrace}
use Rattle.lt_rewrite.specs.Applying.{CoreLeads}
use Rattle.lt_rewrite.specs.Runs.{kind_rank, extension_rank, IsRun, NoneLeads, Adds}
use Rattle.lt_rewrite.specs.declared.steps.Step.{Step}
use Rattle.lt_canon.specs.Answers.{IsCanonicalFormOf}

-- whether a step is one on the source of a `t` extension: it is of a kind on cores, which have the ranks 1 to 6, and
-- its place is after the tag's own core, counted in subtags
abbrev pub is_of_source : TagForm → Step → Bool
is_of_source (LangTag c es ps) step = nat_le (kind_rank step) 6 && nat_le (length (spell_core c) + 1) step.place
is_of_source (PrivateUse ps) step = false
is_of_source (Grandfathered n) step = false

-- the rank of a step on a tag: of the steps that lead on, one of the least rank is the first; the ranks of steps on a
-- source lie between those of DropTrue and of SwapFields
abbrev pub rank_in : TagForm → Step → ℕ
rank_in t step = if is_of_source t step then extension_rank step else kind_rank step

-- the steps lead from a tag to its canonical form, and each is the first that leads on
pub record IsExplanation (R : List EntryParts) (t : TagForm) (steps : List Step) (end : TagForm) : Type 0 where
  pub form : IsCanonicalFormOf R t end
  pub trace : IsTrace R t steps end
  pub is_run : IsRun (LeadsBy R) rank_in t steps end

-- a tag has at most one explanation
abbrev pub HasOneExplanation : List EntryParts → Type 0
HasOneExplanation R =
    (t a b : TagForm) (steps others : List Step) → IsExplanation R t steps a
    → IsExplanation R t others b → (steps ≡ others) × (a ≡ b)

-- no step leads on from the core of a tag, if it has one
abbrev pub RestsOnCore : List EntryParts → TagForm → Type 0
RestsOnCore R t = (c : CoreParts) → core_of t ≡ Some c → NoneLeads (CoreLeads R 0 c)

-- a run of steps, each the first that leads on, from the tag `t` to one from which no step leads, was added to the
-- steps `old`, which made `new`
pub record LeadsToRest (R : List EntryParts) (t : TagForm) (old new : List Step) : Type 0 where
  pub end : TagForm
  pub adds : Adds (LeadsBy R) rank_in t end old new
  pub at_rest : Rests (TagStep R) end
