-- The name of each step: its kind, its place among the tag's subtags, counted from 1, and the number of its record, or
-- 0 if it uses none. By this name a program tells of a step (`explain`) and asks for one (`apply`).
use Rattle.std.specs.Prelude.{ℕ, ◌≡◌, ◌+◌, Bool, List, [], ◌∷◌, length, flat_map}
use Rattle.std.proofs.Common.{Ordering}
use Rattle.lt_tag.specs.Parts.{CoreParts, ExtensionParts, UForm, TForm, TagForm}
use Rattle.lt_tag.specs.Spelling.{spell_core, spell_extension, spell_extensions}
use Rattle.lt_tag.specs.Extensions.{spell_keyword, spell_field}
use Rattle.lt_registry.specs.Parts.{EntryParts}
use Rattle.lt_registry.specs.Entries.{entry, whole, number_of}
use Rattle.lt_registry.specs.Faults.{before_script, before_region, before_variants}
use Rattle.lt_registry.specs.declared.entries.Kind.{Kind}
use Rattle.lt_registry.specs.declared.entries.Kind.TheVariants as kinds
use Rattle.lt_rewrite.specs.CoreSteps.{Spot, at_extlang, at_language, at_script, at_region, at_variant}
use Rattle.lt_rewrite.specs.CoreSteps.{at_variant_language, CoreStep}
use Rattle.lt_rewrite.specs.Orderings.{ListStep, by_swap, by_drop}
use Rattle.lt_rewrite.specs.Extensions.{UnicodeStep, on_attributes, on_keywords, on_types, TransformStep, on_source}
use Rattle.lt_rewrite.specs.Extensions.{on_fields, ExtensionStep, in_unicode, in_transform, ExtensionsStep, inside}
use Rattle.lt_rewrite.specs.Extensions.{among}
use Rattle.lt_rewrite.specs.TagSteps.{TagChange, on_core, on_extensions, on_whole, TagStep}
use Rattle.lt_rewrite.specs.declared.steps.Step.{Step}
use Rattle.lt_rewrite.specs.declared.steps.StepKind.{StepKind}
use Rattle.lt_rewrite.specs.declared.steps.StepKind.TheVariants as steps
use Rattle.lt_tag.specs.Splitting.{spell_source}

-- the step of this kind, at this place, by the record with this number
abbrev pub step_at : StepKind → ℕ → ℕ → Step
step_at kind place number = record { kind = kind; place = place; number = number }

-- the kind of a core step at a spot
abbrev pub kind_at : Spot → StepKind
kind_at at_extlang = steps.Extlang
kind_at at_language = steps.Language
kind_at at_script = steps.Script
kind_at at_region = steps.Region
kind_at (at_variant i) = steps.Variant
kind_at (at_variant_language i) = steps.VariantLanguage

-- the kind of the subtag at a spot of a core, under which its record is looked up
abbrev pub subtag_kind_at : Spot → Kind
subtag_kind_at at_extlang = kinds.Extlang
subtag_kind_at at_language = kinds.Language
subtag_kind_at at_script = kinds.Script
subtag_kind_at at_region = kinds.Region
subtag_kind_at (at_variant i) = kinds.Variant
subtag_kind_at (at_variant_language i) = kinds.Variant

-- the place of a spot among the subtags of a core, counted from 1: the language is the first, and an only extlang the
-- second
abbrev pub place_at : CoreParts → Spot → ℕ
place_at c at_extlang = 2
place_at c at_language = 1
place_at c at_script = before_script c + 1
place_at c at_region = before_region c + 1
place_at c (at_variant i) = before_variants c + i + 1
place_at c (at_variant_language i) = before_variants c + i + 1

-- the name of a step on a core that begins after `start` subtags
abbrev pub core_label : (R : List EntryParts) (start : ℕ) {c d : CoreParts} → CoreStep R c d → Step
core_label R start {c} s =
    step_at (kind_at s.spot) (start + place_at c s.spot) (number_of (entry R (subtag_kind_at s.spot) s.subtag))

-- The name of a step on a list of parts that begins after `start` subtags. `swap` and `drop` are the kinds that its
-- steps have, and `spell` gives the subtags of a part. The place of a swap is that of the first of its two parts, and
-- the place of a drop that of the dropped part.
abbrev pub list_label : {A : Type 0} {once : Bool} {cmp : A → A → Ordering} {xs ys : List A}
    → StepKind → StepKind → (A → List (List ℕ)) → ℕ → ListStep once cmp xs ys → Step
list_label swap drop spell start (by_swap before a b after s) =
    step_at swap (start + length (flat_map spell before) + 1) 0
list_label swap drop spell start (by_drop before a between b after o s) =
    step_at drop (start + length (flat_map spell before) + length (spell a) + length (flat_map spell between) + 1) 0

-- the name of a step on the parts of a `u` extension, whose singleton is at the place `start`; 2 is for the key and the
-- type `true` after it, which is dropped
abbrev pub unicode_label : ℕ → {p q : UForm} → UnicodeStep p q → Step
unicode_label start (on_attributes s k) = list_label steps.SwapAttributes steps.DropAttribute (λ a. a ∷ []) start s
unicode_label start {p} (on_keywords a s) =
    list_label steps.SwapKeywords steps.DropKeyword spell_keyword (start + length p.attributes) s
unicode_label start {p} (on_types a before k after s) =
    step_at steps.DropTrue (start + length p.attributes + length (flat_map spell_keyword before) + 2) 0

-- the name of a step on the parts of a `t` extension, whose singleton is at the place `start`; fields are not dropped,
-- so the second kind that is given to `list_label` makes no difference
abbrev pub transform_label : (R : List EntryParts) → ℕ → {p q : TForm} → TransformStep R p q → Step
transform_label R start (on_source c d _ _ s _) = core_label R start s
transform_label R start {p} (on_fields a s) =
    list_label steps.SwapFields steps.SwapFields spell_field (start + length (spell_source p.source)) s

-- the name of a step inside an extension, whose singleton is at the place `start`
abbrev pub extension_label : (R : List EntryParts) → ℕ → {e f : ExtensionParts} → ExtensionStep R e f → Step
extension_label R start (in_unicode p q _ _ _ _ s) = unicode_label start s
extension_label R start (in_transform p q _ _ _ _ s) = transform_label R start s

-- the name of a step on extensions, which begin after `start` subtags; extensions are not dropped, so the second kind
-- that is given to `list_label` makes no difference
abbrev pub extensions_label : (R : List EntryParts) → ℕ → {es fs : List ExtensionParts} → ExtensionsStep R es fs → Step
extensions_label R start (inside before e f after there result s) =
    extension_label R (start + length (spell_extensions before) + 1) s
extensions_label R start (among s) = list_label steps.SwapExtensions steps.SwapExtensions spell_extension start s

-- the name of a step on a tag; a step on the whole tag is at the place 1
abbrev pub tag_label : (R : List EntryParts) {t u : TagForm} → TagChange R t u → Step
tag_label R (on_core c d es ps _ _ s) = core_label R 0 s
tag_label R (on_extensions c es fs ps _ _ s) = extensions_label R (length (spell_core c)) s
tag_label R {t} (on_whole _ _) = step_at steps.Whole 1 (number_of (whole R t))

-- a step with this name leads from the proper tag `t` to the proper tag `u`
abbrev pub LeadsBy : List EntryParts → TagForm → Step → TagForm → Type 0
LeadsBy R t step u = (s : TagStep R t u) × (tag_label R s.change ≡ step)

-- steps with these names lead one after another from `t` to `end`
abbrev pub IsTrace : List EntryParts → TagForm → List Step → TagForm → Type 0
IsTrace R t [] end = t ≡ end
IsTrace R t (step ∷ steps) end = (u : TagForm) × LeadsBy R t step u × IsTrace R u steps end
