-- Runs of steps, one after another, each of which is the first of those that lead on from where it is taken. Steps are
-- ordered by the rank of their kind, and then by their place.
use Rattle.std.specs.Prelude.{ℕ, ◌≡◌, ◌+◌, ◌<◌, ◌≤◌, ◌⊎◌, nat_le, if◌then◌else◌, List, [], ◌∷◌, ◌++◌, length}
use Rattle.std.specs.Prelude.{slice_index_or}
use Rattle.std.proofs.Common.{Ordering, Less}
use Rattle.lt_tag.specs.Parts.{CoreParts, ExtensionParts, KeywordParts, UForm, TForm}
use Rattle.lt_registry.specs.Parts.{EntryParts}
use Rattle.lt_rewrite.specs.Applying.{CoreLeads, HasLike, SwapLeads, DropLeads, TrueLeads, UnicodeLeads, TransformLeads}
use Rattle.lt_rewrite.specs.Applying.{ExtensionsLeads}
use Rattle.lt_rewrite.specs.declared.steps.Step.{Step}
use Rattle.lt_rewrite.specs.declared.steps.StepKind.{StepKind}
use Rattle.lt_rewrite.specs.declared.steps.StepKind.TheVariants as steps

-- the rank of each kind of step, by which `explain` orders steps; the ranks from 14 to 19 are for steps on the source
-- of a `t` extension, as `extension_rank` gives them
abbrev pub rank_of : StepKind → ℕ
rank_of steps.Extlang = 1
rank_of steps.Language = 2
rank_of steps.Script = 3
rank_of steps.Region = 4
rank_of steps.Variant = 5
rank_of steps.VariantLanguage = 6
rank_of steps.Whole = 7
rank_of steps.SwapExtensions = 8
rank_of steps.DropAttribute = 9
rank_of steps.SwapAttributes = 10
rank_of steps.DropKeyword = 11
rank_of steps.SwapKeywords = 12
rank_of steps.DropTrue = 13
rank_of steps.SwapFields = 20

-- the rank of a step, which is that of its kind
abbrev pub kind_rank : Step → ℕ
kind_rank step = rank_of step.kind

-- The rank of a step on extensions. Its kind may be one of those on a core, with a rank up to 6: then it is a step on
-- the source of a `t` extension, and 13 more puts it between DropTrue (13) and SwapFields (20).
abbrev pub extension_rank : Step → ℕ
extension_rank step = if nat_le (kind_rank step) 6 then kind_rank step + 13 else kind_rank step

-- the step `a` comes no later than `b`, where `rank` gives the ranks: its rank is less, or the ranks are equal and its
-- place is no further right
abbrev pub IsNoLater : (Step → ℕ) → Step → Step → Type 0
IsNoLater rank a b = (rank a < rank b) ⊎ ((rank a ≡ rank b) × (a.place ≤ b.place))

-- the step leads to `to`, and no step that leads anywhere comes before it; `Leads` tells to what each step leads
pub record IsFirst {A : Type 0} (Leads : Step → A → Type 0) (rank : Step → ℕ) (step : Step) (to : A) : Type 0 where
  pub leads : Leads step to
  pub first : (other : Step) (b : A) → Leads other b → IsNoLater rank step other

-- the steps lead one after another from `a` to `b`, each the first that leads on from where it is taken; `Leads` tells
-- to what a step leads from a value, and `rank` gives the rank of a step from a value
abbrev pub IsRun : {A : Type 0} → (A → Step → A → Type 0) → (A → Step → ℕ) → A → List Step → A → Type 0
IsRun Leads rank a [] b = a ≡ b
IsRun {A} Leads rank a (step ∷ steps) b = (c : A) × IsFirst (Leads a) (rank a) step c × IsRun Leads rank c steps b

-- no step leads on; `Leads` tells to what each step leads
abbrev pub NoneLeads : {A : Type 0} → (Step → A → Type 0) → Type 0
NoneLeads {A} Leads = (step : Step) (a : A) → Leads step a → ⊥

-- no step of the rank `n` leads on; `Leads` tells to what each step leads
abbrev pub NoneOfRank : {A : Type 0} → (Step → A → Type 0) → (Step → ℕ) → ℕ → Type 0
NoneOfRank {A} Leads rank n = (step : Step) (a : A) → Leads step a → rank step ≡ n → ⊥

-- of the steps of the rank `n` that lead on, `step` is the leftmost; `Leads` tells to what each step leads
pub record IsLeftmost {A : Type 0} (Leads : Step → A → Type 0) (rank : Step → ℕ) (n : ℕ) (step : Step) : Type 0 where
  pub of_rank : rank step ≡ n
  pub to : A
  pub leads : Leads step to
  pub leftmost : (other : Step) (b : A) → Leads other b → rank other ≡ n → step.place ≤ other.place

-- `new` is `old` with a run of steps from `a` to `b` added, as `IsRun` says: `old` and `new` are the lists of steps
-- before and after a call
pub record Adds {A : Type 0} (Leads : A → Step → A → Type 0)
    (rank : A → Step → ℕ) (a b : A) (old new : List Step) : Type 0 where
  pub run : List Step
  pub added : new ≡ old ++ run
  pub is_run : IsRun Leads rank a run b

-- of the steps of rank `n` that lead on from the core `c`, which begins after `start` subtags, this is the leftmost
abbrev pub IsLeftmostOnCore : List EntryParts → ℕ → CoreParts → ℕ → Step → Type 0
IsLeftmostOnCore R start c n step = IsLeftmost (CoreLeads R start c) kind_rank n step

-- no step of rank `n` leads on from the core `c`, which begins after `start` subtags
abbrev pub NoneOnCore : List EntryParts → ℕ → CoreParts → ℕ → Type 0
NoneOnCore R start c n = NoneOfRank (CoreLeads R start c) kind_rank n

-- of the steps that lead on from the core `c`, which begins after `start` subtags, this is the first, and leads to `to`
pub record IsFirstOnCore (R : List EntryParts) (start : ℕ) (c : CoreParts) (step : Step) : Type 0 where
  pub to : CoreParts
  pub is_first : IsFirst (CoreLeads R start c) kind_rank step to

-- `new` is `old` with a run of steps added from the core `c`, which begins after `start` subtags, to `d`
abbrev pub AddsOnCore : List EntryParts → ℕ → CoreParts → CoreParts → List Step → List Step → Type 0
AddsOnCore R start c d old new = Adds (CoreLeads R start) (λ _ step. kind_rank step) c d old new

-- By the step, which has this kind and uses no record, two neighbours in falling order by `cmp` change places, so that
-- the list `xs` becomes `ys`. The list begins after `start` subtags, and `spell` gives the subtags of a part.
pub record SwapsBy {A : Type 0} (cmp : A → A → Ordering) (spell : A → List (List ℕ))
    (kind : StepKind) (start : ℕ) (xs : List A) (step : Step) (ys : List A) : Type 0 where
  pub of_kind : step.kind ≡ kind
  pub unnumbered : step.number ≡ 0
  pub leads : SwapLeads cmp spell start step.place xs ys

-- By the step, which has this kind and uses no record, a part that is equal in the order `cmp` to an earlier one is
-- dropped, so that the list `xs` becomes `ys`. The list begins after `start` subtags, and `spell` gives the subtags of
-- a part.
pub record DropsBy {A : Type 0} (cmp : A → A → Ordering) (spell : A → List (List ℕ))
    (kind : StepKind) (start : ℕ) (xs : List A) (step : Step) (ys : List A) : Type 0 where
  pub of_kind : step.kind ≡ kind
  pub unnumbered : step.number ≡ 0
  pub leads : DropLeads cmp spell start step.place xs ys

-- the part at an index is above the next one in the order `cmp`; `default` stands for a part beyond the end, and makes
-- no difference within the list
abbrev pub FallsAt : {A : Type 0} → (A → A → Ordering) → List A → ℕ → Type 0
FallsAt {A} cmp xs index =
    (default : A) → cmp (slice_index_or xs (index + 1) default) (slice_index_or xs index default) ≡ Less

-- this is the leftmost index of a part that is above the next one in the order `cmp`
pub record IsFirstFall {A : Type 0} (cmp : A → A → Ordering) (xs : List A) (index : ℕ) : Type 0 where
  pub within : index + 1 < length xs
  pub falls : FallsAt cmp xs index
  pub leftmost : (other : ℕ) → other < index → FallsAt cmp xs other → ⊥

-- this is the leftmost index of a part that is equal in the order `cmp` to an earlier one
pub record IsFirstRepeat {A : Type 0} (cmp : A → A → Ordering) (xs : List A) (index : ℕ) : Type 0 where
  pub within : index < length xs
  pub repeats : HasLike cmp xs index
  pub leftmost : (other : ℕ) → other < index → HasLike cmp xs other → ⊥

-- by the step, a DropTrue step, one of the keywords `ks` loses its only type, `true`, so that they become `ls`; they
-- begin after `start` subtags
pub record DropsTrueBy (start : ℕ) (ks : List KeywordParts) (step : Step) (ls : List KeywordParts) : Type 0 where
  pub of_kind : step.kind ≡ steps.DropTrue
  pub unnumbered : step.number ≡ 0
  pub leads : TrueLeads start step.place ks ls

-- `new` is `old` with a run of steps added from the parts `p` of a `u` extension, whose singleton is at the place
-- `start`, to `q`
abbrev pub AddsOnUnicode : ℕ → UForm → UForm → List Step → List Step → Type 0
AddsOnUnicode start p q old new = Adds (UnicodeLeads start) (λ _ step. kind_rank step) p q old new

-- `new` is `old` with a run of steps added from the parts `p` of a `t` extension, whose singleton is at the place
-- `start`, to `q`
abbrev pub AddsOnTransform : List EntryParts → ℕ → TForm → TForm → List Step → List Step → Type 0
AddsOnTransform R start p q old new = Adds (TransformLeads R start) (λ _ step. kind_rank step) p q old new

-- `new` is `old` with a run of steps added from the extensions `es`, which begin after `start` subtags, to `fs`
abbrev pub AddsOnExtensions : List EntryParts → ℕ → List ExtensionParts
    → List ExtensionParts → List Step → List Step → Type 0
AddsOnExtensions R start es fs old new = Adds (ExtensionsLeads R start) (λ _ step. extension_rank step) es fs old new
