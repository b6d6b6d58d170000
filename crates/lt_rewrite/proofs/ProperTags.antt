-- Under the conditions C1 to C6 (`MeetsCoreConditions`) and C8 (`HasFittingGrandfathered`) a core step on the core of a
-- proper tag leads to a proper tag, and so does a step on its extensions (the law `StepsKeepTagsProper`). A tag is
-- proper if it is valid, except that a variant may occur twice.
use Rattle.std.proofs.Common.{◌≡◌, ◌≢◌, ℕ, false, ◌≤◌, inl, List, [], ◌∷◌, ◌++◌, Option, Some, sym, ap, ◌∙◌, subst, map}
use Rattle.std.proofs.Common.{length, arith, All, IfSome}
use Rattle.std.specs.List.{AllByRecursion}
use Rattle.std.proofs.lemmas.List.{map-append}
use Rattle.lt_tag.specs.Parts.{CoreParts, ExtensionParts, TForm, LangTag}
use Rattle.lt_tag.specs.Spelling.{spell_core, IsExtension, IsPrivate}
use Rattle.lt_tag.specs.Extensions.{transform, IsTransform}
use Rattle.lt_tag.specs.Values.{IsExtensionValue}
use Rattle.lt_tag.specs.WellFormed.{IsLangTag, IsNotGrandfathered}
use Rattle.lt_tag.proofs.TagLemmas.{not_grandfathered, AllByRecursion-weaker}
use Rattle.lt_registry.specs.Parts.{EntryParts}
use Rattle.lt_registry.specs.Validity.{IsProperCore, Distinct, IsProperExtension, IsProper}
use Rattle.lt_rewrite.specs.CoreSteps.{CoreStep}
use Rattle.lt_rewrite.specs.Orderings.{ListStep, by_swap, by_drop}
use Rattle.lt_rewrite.specs.Extensions.{singleton_cmp, TransformStep, on_source, on_fields, ExtensionStep, in_unicode}
use Rattle.lt_rewrite.specs.Extensions.{in_transform, ExtensionsStep, inside, among}
use Rattle.lt_registry.specs.Entries.{IsRegistry}
use Rattle.lt_rewrite.specs.Conditions.{HasFittingGrandfathered, MeetsCoreConditions}
use Rattle.lt_rewrite.specs.Laws.{IsProperValue, StepsKeepTagsProper}
use Rattle.lt_rewrite.proofs.CoreLaws.{steps_keep_proper}
use Rattle.lt_rewrite.proofs.PartLists.{all_both, all_step, all_swapped, all_middle, all_replaced, if_some_is, is_if_some}
use Rattle.lt_rewrite.proofs.ExtensionForms.{extension_step_singleton, extensions_step_values, extensions_step_count}
use Rattle.lt_tag.proofs.PartsLaws.{t_unique as one_transform}
use Rattle.lt_tag.specs.Lists.{longest_text}
pub use Rattle.lt_rewrite.proofs.CoreLaws.{step_proper, proper_not_grandfathered, proper_spells_none}

-- the core `c`, the extensions `es` and the private use subtags `ps` may be those of a proper langtag: a Tag can hold
-- them, the core and each extension are proper, and no singleton occurs twice
pub record ProperParts (R : List EntryParts) (c : CoreParts) (es : List ExtensionParts) (ps : List (List ℕ)) : Type 0 where
  pub core : IsProperValue R c
  pub values : AllByRecursion IsExtensionValue es
  pub count : length es ≤ longest_text
  pub private : IsPrivate ps
  pub private_count : length ps ≤ longest_text
  pub extensions : AllByRecursion (IsProperExtension R) es
  pub singletons : Distinct (map (λ (e : ExtensionParts). e.singleton) es)

-- `ProperParts` holds of the parts of a proper langtag
pub proper_parts : (R : List EntryParts) (c : CoreParts) (es : List ExtensionParts) (ps : List (List ℕ))
    → IsProper R (LangTag c es ps) → ProperParts R c es ps
proper_parts R c es ps P =
    let shaped : IsLangTag c es ps = P.tag.tag.0 in
    let counts = P.tag.counts in
    record {
      core = record { value = record { shaped = shaped.shaped_core; variants = counts.0 }; proper = P.parts.core };
      values = all_both IsExtension (λ (e : ExtensionParts). length e.subtags ≤ longest_text) IsExtensionValue
          (λ e a b. record { shaped = a; subtags = b }) es shaped.shaped_extensions counts.2;
      count = counts.1;
      private = shaped.shaped_private;
      private_count = counts.3;
      extensions = P.parts.extensions;
      singletons = P.parts.singletons;
    }

-- a langtag of parts of which `ProperParts` holds is proper, if its core spells no grandfathered tag
pub proper_langtag : (R : List EntryParts) (c : CoreParts) (es : List ExtensionParts) (ps : List (List ℕ))
    → IsNotGrandfathered (spell_core c) → ProperParts R c es ps → IsProper R (LangTag c es ps)
proper_langtag R c es ps n P = record {
  tag = record {
    tag = (
      record {
        shaped_core = P.core.value.shaped;
        shaped_extensions = AllByRecursion-weaker IsExtensionValue IsExtension (λ e k. k.shaped) es P.values;
        shaped_private = P.private;
      },
      not_grandfathered c es ps (inl n),
    );
    counts = (
      P.core.value.variants,
      P.count,
      AllByRecursion-weaker IsExtensionValue
          (λ (e : ExtensionParts). length e.subtags ≤ longest_text) (λ e k. k.subtags) es P.values,
      P.private_count,
    );
  };
  parts = record { core = P.core.proper; extensions = P.extensions; singletons = P.singletons };
}

-- a list without repeats has none after two neighbours change places
distinct_swapped : (before : List ℕ) (a b : ℕ) (after : List ℕ) → Distinct (before ++ a ∷ b ∷ after) → Distinct (before ++ b ∷ a ∷ after)
distinct_swapped [] a b after h = (((λ e. h.0.0 (sym e)), h.1.0), (h.0.1, h.1.1))
distinct_swapped (u ∷ us) a b after h = (all_swapped (λ y. y ≢ u) us a b after h.0, distinct_swapped us a b after h.1)

-- the singletons of extensions
abbrev singletons_of : List ExtensionParts → List ℕ
singletons_of es = map (λ (e : ExtensionParts). e.singleton) es

-- if the singletons of extensions differ, they do so after a step on the order of the extensions
distinct_order : (es fs : List ExtensionParts) → ListStep false singleton_cmp es fs → Distinct (singletons_of es)
    → Distinct (singletons_of fs)
distinct_order es fs (by_swap before a b after s) h =
    rw s.result
    (simp map-append (distinct_swapped (singletons_of before) a.singleton b.singleton (singletons_of after)
    (simp map-append at (subst (λ l. Distinct (singletons_of l)) s.there h))))
distinct_order es fs (by_drop before a between b after o s) h = cc

-- if an extension `f` is put in the place of `e`, which has the same singleton, the singletons stay
same_singletons : (before : List ExtensionParts) (e f : ExtensionParts) (after : List ExtensionParts)
    → f.singleton ≡ e.singleton → singletons_of (before ++ e ∷ after) ≡ singletons_of (before ++ f ∷ after)
same_singletons before e f after h = simp (map-append, h)

-- if the singletons of extensions differ, they do so after a step on the extensions
distinct_step : (R : List EntryParts) (es fs : List ExtensionParts) → ExtensionsStep R es fs
    → Distinct (singletons_of es) → Distinct (singletons_of fs)
distinct_step R es fs (inside before e f after there result s) h =
    subst Distinct (ap singletons_of there ∙ same_singletons before e f after (extension_step_singleton R e f s)
    ∙ sym (ap singletons_of result)) h
distinct_step R es fs (among s) h = distinct_order es fs s h

-- the source of the parts `p` of a proper `t` extension, if there is one, is proper
proper_source : (R : List EntryParts) (e : ExtensionParts) (p : TForm) → IsProperExtension R e → e.singleton ≡ transform
    → IsTransform e.subtags p → IfSome p.source (IsProperCore R)
proper_source R e p P h k =
    let m = P h in
    subst (λ (z : TForm). IfSome z.source (IsProperCore R)) (one_transform e.subtags m.0 p m.1 k) m.2

-- the source `c` of the parts of a proper `t` extension is proper
pub source_proper : (R : List EntryParts) (e : ExtensionParts) (p : TForm) (c : CoreParts) → IsProperExtension R e
    → e.singleton ≡ transform → IsTransform e.subtags p → p.source ≡ Some c → IsProperCore R c
source_proper R e p c P h k there = if_some_is (IsProperCore R) p.source c there (proper_source R e p P h k)

module _ (R : List EntryParts) (G : IsRegistry R) (C : MeetsCoreConditions R) (H : All (HasFittingGrandfathered R) R) where
  -- if the source of the parts of a `t` extension is proper, or there is none, so it is after a step on the parts
  transform_step_proper : (p q : TForm) → TransformStep R p q → IfSome p.source (IsProperCore R) → IfSome q.source (IsProperCore R)
  transform_step_proper p q (on_source c d from to s _) P =
      is_if_some (IsProperCore R) q.source d to (step_proper R C c d (if_some_is (IsProperCore R) p.source c from P) s)
  transform_step_proper p q (on_fields h s) P = let Q : Option CoreParts → Type 0 = λ o. IfSome o (IsProperCore R) in subst Q (sym h) P

  -- a step inside an extension leads from a proper extension to a proper one
  extension_step_proper : (e f : ExtensionParts) → ExtensionStep R e f → IsProperExtension R e → IsProperExtension R f
  extension_step_proper e f (in_unicode p q is_u kept _ _ _) P h = absurd (omega (arith, h, kept, is_u))
  extension_step_proper e f (in_transform p q is_t _ from to s) P h = (q, to, transform_step_proper p q s (proper_source R e p P is_t from))

  -- a step on extensions leads from proper extensions to proper ones
  extensions_step_proper : (es fs : List ExtensionParts) → ExtensionsStep R es fs
      → AllByRecursion (IsProperExtension R) es → AllByRecursion (IsProperExtension R) fs
  extensions_step_proper es fs (inside before e f after there result s) P =
      let all = subst (AllByRecursion (IsProperExtension R)) there P in
      subst (AllByRecursion (IsProperExtension R)) (sym result)
      (all_replaced (IsProperExtension R) before e f after all
      (extension_step_proper e f s (all_middle (IsProperExtension R) before e after all)))
  extensions_step_proper es fs (among s) P = all_step (IsProperExtension R) es fs s P

  -- a step on the core of a proper langtag leads to a proper langtag
  core_step_tag : (c d : CoreParts) (es : List ExtensionParts) (ps : List (List ℕ)) → CoreStep R c d
      → IsProper R (LangTag c es ps) → IsProper R (LangTag d es ps)
  core_step_tag c d es ps s P =
      let parts = proper_parts R c es ps P in
      let core = steps_keep_proper R G C c d parts.core s in
      proper_langtag R d es ps (proper_spells_none R H d core)
      (record {
        core = core;
        values = parts.values;
        count = parts.count;
        private = parts.private;
        private_count = parts.private_count;
        extensions = parts.extensions;
        singletons = parts.singletons;
      })

  -- a step on the extensions of a proper langtag leads to a proper langtag
  extensions_step_tag : (c : CoreParts) (es fs : List ExtensionParts) (ps : List (List ℕ)) → ExtensionsStep R es fs
      → IsProper R (LangTag c es ps) → IsProper R (LangTag c fs ps)
  extensions_step_tag c es fs ps s P =
      let parts = proper_parts R c es ps P in
      proper_langtag R c fs ps (proper_spells_none R H c parts.core) (record {
        core = parts.core;
        values = extensions_step_values R es fs s parts.values;
        count = omega (arith, extensions_step_count R es fs s, parts.count);
        private = parts.private;
        private_count = parts.private_count;
        extensions = extensions_step_proper es fs s parts.extensions;
        singletons = distinct_step R es fs s parts.singletons;
      })

  -- under the conditions C1 to C6 and C8 the law `StepsKeepTagsProper` holds
  pub steps_keep_tags_proper : StepsKeepTagsProper R
  steps_keep_tags_proper = record { core = core_step_tag; extensions = extensions_step_tag }
