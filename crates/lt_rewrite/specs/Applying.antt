-- What a step, given by its kind, its place and the number of its record, makes of a tag and of each of its parts. A
-- step leads from a value to what it makes of the value, and nowhere if there is no such step.
use Rattle.std.specs.Prelude.{ℕ, ◌≡◌, ◌<◌, ◌+◌, Bool, true, false, List, Option, Some, None, length, take, flat_map}
use Rattle.std.specs.Prelude.{slice_index_or}
use Rattle.std.proofs.Common.{Ordering, Equal}
use Rattle.lt_tag.specs.Parts.{CoreParts, ExtensionParts, KeywordParts, UForm, TForm, TagForm}
use Rattle.lt_tag.specs.Spelling.{spell_extensions}
use Rattle.lt_tag.specs.Extensions.{spell_keyword}
use Rattle.lt_registry.specs.Parts.{EntryParts}
use Rattle.lt_registry.specs.Entries.{entry, preferred_value, whole, whole_value, number_of}
use Rattle.lt_registry.specs.declared.entries.Kind.{Kind}
use Rattle.lt_rewrite.specs.CoreSteps.{CoreStep}
use Rattle.lt_rewrite.specs.TagSteps.{TagChange}
use Rattle.lt_rewrite.specs.Labels.{tag_label, core_label, unicode_label, transform_label, extension_label}
use Rattle.lt_rewrite.specs.Labels.{extensions_label}
use Rattle.lt_rewrite.specs.Orderings.{SwapsAt, DropsAt}
use Rattle.lt_rewrite.specs.Extensions.{DropsTrue, UnicodeStep, TransformStep, ExtensionStep, ExtensionsStep}
use Rattle.lt_rewrite.specs.declared.steps.Step.{Step}

-- the answer of a call that takes a step, where `Leads` holds of each value to which the step leads: true says that the
-- step leads to `new`, the value after the call, and false that it leads nowhere
abbrev pub Answers : {A : Type 0} → (A → Type 0) → A → Bool → Type 0
Answers Leads new true = Leads new
Answers {A} Leads new false = (other : A) → Leads other → ⊥

-- what a call makes by a step, where `Leads` holds of each value to which the step leads: such a value, or None if
-- there is none
abbrev pub Changes : {A : Type 0} → (A → Type 0) → Option A → Type 0
Changes Leads (Some new) = Leads new
Changes {A} Leads None = (other : A) → Leads other → ⊥

-- the preferred value of the subtag `s` of this kind is `v`, from the record with this number
pub record IsValueBy (R : List EntryParts) (kind : Kind) (s : List ℕ) (number : ℕ) (v : List ℕ) : Type 0 where
  pub has : preferred_value R kind s ≡ Some v
  pub by : number_of (entry R kind s) ≡ number

-- the step leads from the core `c`, which begins after `start` subtags of the tag, to `d`
abbrev pub CoreLeads : List EntryParts → ℕ → CoreParts → Step → CoreParts → Type 0
CoreLeads R start c step d = (s : CoreStep R c d) × (core_label R start s ≡ step)

-- the part at `index` begins at `place`, counted from 1, in a list `xs` that begins after `start` subtags; `spell`
-- gives the subtags of a part
abbrev pub IsPlaceOf : {A : Type 0} → (A → List (List ℕ)) → ℕ → List A → ℕ → ℕ → Type 0
IsPlaceOf spell start xs index place = place ≡ start + length (flat_map spell (take index xs)) + 1

-- an earlier part of `xs`, at the index `earlier`, is equal in the order `cmp` to the part at `index`; `default` stands
-- for a part beyond the end, and makes no difference within the list
pub record HasLike {A : Type 0} (cmp : A → A → Ordering) (xs : List A) (index : ℕ) : Type 0 where
  pub earlier : ℕ
  pub before : earlier < index
  pub alike : (default : A) → cmp (slice_index_or xs index default) (slice_index_or xs earlier default) ≡ Equal

-- two neighbours in falling order by `cmp`, `first` and `second`, change places, so that the list `xs` becomes `ys`;
-- `first` begins at `place`. The list begins after `start` subtags, and `spell` gives the subtags of a part.
pub record SwapLeads {A : Type 0} (cmp : A → A → Ordering)
    (spell : A → List (List ℕ)) (start place : ℕ) (xs ys : List A) : Type 0 where
  pub before : List A
  pub first : A
  pub second : A
  pub after : List A
  pub swaps : SwapsAt cmp before first second after xs ys
  pub at : place ≡ start + length (flat_map spell before) + 1

-- the part `second`, which begins at `place`, is dropped, since the earlier part `first` is equal to it in the order
-- `cmp`, so that the list `xs` becomes `ys`. The list begins after `start` subtags, and `spell` gives the subtags of a
-- part.
pub record DropLeads {A : Type 0} (cmp : A → A → Ordering)
    (spell : A → List (List ℕ)) (start place : ℕ) (xs ys : List A) : Type 0 where
  pub before : List A
  pub first : A
  pub between : List A
  pub second : A
  pub after : List A
  pub drops : DropsAt cmp before first between second after xs ys
  pub at : place ≡ start + length (flat_map spell before) + length (spell first) + length (flat_map spell between) + 1

-- a keyword of `ks` loses its only type, `true`, which is at `place`, so that the keywords become `ls`. They begin
-- after `start` subtags; the 2 is for the key and the type.
pub record TrueLeads (start place : ℕ) (ks ls : List KeywordParts) : Type 0 where
  pub before : List KeywordParts
  pub keyword : KeywordParts
  pub after : List KeywordParts
  pub drops : DropsTrue before keyword after ks ls
  pub at : place ≡ start + length (flat_map spell_keyword before) + 2

-- the step leads from the parts `p` of a `u` extension, whose singleton is at the place `start`, to `q`
abbrev pub UnicodeLeads : ℕ → UForm → Step → UForm → Type 0
UnicodeLeads start p step q = (s : UnicodeStep p q) × (unicode_label start s ≡ step)

-- the step leads from the parts `p` of a `t` extension, whose singleton is at the place `start`, to `q`
abbrev pub TransformLeads : List EntryParts → ℕ → TForm → Step → TForm → Type 0
TransformLeads R start p step q = (s : TransformStep R p q) × (transform_label R start s ≡ step)

-- the step acts inside the extension `e`, whose singleton is at the place `start`, and makes `f` of it
abbrev pub ExtensionLeads : List EntryParts → ℕ → ExtensionParts → Step → ExtensionParts → Type 0
ExtensionLeads R start e step f = (s : ExtensionStep R e f) × (extension_label R start s ≡ step)

-- the step acts inside the extension of `es` at `index`, and makes `f` of it. The extensions begin after `start`
-- subtags; `default` stands for an extension beyond the end.
abbrev pub LeadsAt : List EntryParts → ℕ → List ExtensionParts → Step → ℕ → ExtensionParts → Type 0
LeadsAt R start es step index f =
    (default : ExtensionParts)
    → ExtensionLeads R (start + length (spell_extensions (take index es)) + 1)
    (slice_index_or es index default) step f

-- the step leads from the extensions `es`, which begin after `start` subtags, to `fs`
abbrev pub ExtensionsLeads : List EntryParts → ℕ → List ExtensionParts → Step → List ExtensionParts → Type 0
ExtensionsLeads R start es step fs = (s : ExtensionsStep R es fs) × (extensions_label R start s ≡ step)

-- the preferred value of the whole tag `t` is `u`, from the record with this number
pub record IsWholeValueBy (R : List EntryParts) (t : TagForm) (number : ℕ) (u : TagForm) : Type 0 where
  pub has : whole_value R t ≡ Some u
  pub by : number_of (whole R t) ≡ number

-- the step leads from the tag `t` to `u`, whether `u` is proper or not
abbrev pub TagLeads : List EntryParts → TagForm → Step → TagForm → Type 0
TagLeads R t step u = (s : TagChange R t u) × (tag_label R s ≡ step)
