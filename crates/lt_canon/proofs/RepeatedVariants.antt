-- If a variant occurs twice in the core normal form of the core of a valid tag, or of a source in it, steps can repeat
-- a variant of the tag, and it has no canonical form. Any other valid tag has one: its end form (TagForm). This file
-- proves the laws of both: which variant a refusal names, and that tags are equivalent exactly if their canonical forms
-- are equal.
use Rattle.std.proofs.Common.{◌≡◌, ℕ, ◌+◌, ◌<◌, ◌⊎◌, inl, inr, List, [], ◌∷◌, ◌++◌, Option, Some, None, refl, sym, ap}
use Rattle.std.proofs.Common.{◌∙◌, subst, map, append_assoc, length, take, drop, get_or, IfSome, false, Ordering, arith}
use Rattle.std.proofs.Common.{◌↔◌}
use Rattle.std.specs.Prelude.{option_map, flat_map, MatchOption}
use Rattle.std.specs.Option.{option_to_list}
use Rattle.std.specs.List.{AllByRecursion}
use Rattle.std.proofs.lemmas.Bool.{cases_eq}
use Rattle.lt_tag.specs.Parts.{CoreParts, ExtensionParts, TForm, TagForm, LangTag}
use Rattle.lt_tag.specs.Extensions.{transform, IsTransform, spell_field}
use Rattle.lt_tag.proofs.TagLemmas.{AllByRecursion-weaker}
use Rattle.lt_registry.specs.Parts.{EntryParts}
use Rattle.lt_registry.specs.Validity.{Distinct, IsProperExtension, HasDistinctSource, IsProper, RepeatsNoVariant, IsValid}
use Rattle.lt_registry.specs.Faults.{HasSource}
use Rattle.lt_registry.proofs.ListLemmas.{whole_turn, take_turn}
use Rattle.lt_registry.proofs.SplitListLemmas.{all_at, all_from, all_more, distinct_at, distinct_from}
use Rattle.lt_rewrite.specs.Rewriting.{IsNormalForm, Rests, Star, done, then}
use Rattle.lt_rewrite.specs.Extensions.{ExtensionsStep, singleton_cmp, on_source, on_fields, ExtensionStep, in_unicode}
use Rattle.lt_rewrite.specs.Extensions.{in_transform, inside, among}
use Rattle.lt_rewrite.proofs.NormalForms.{star_keeps, normal_is_form, form_is_normal}
use Rattle.lt_rewrite.proofs.PartLists.{all_step, if_some_is, all_both, all_swapped, all_middle, all_mapped}
use Rattle.lt_rewrite.proofs.PartLists.{all_replaced, all_unmapped, distinct_cut}
use Rattle.lt_rewrite.proofs.ExtensionForms.{extensions_ordered, normal_parts, normal_singleton}
use Rattle.lt_tag.proofs.PartsLaws.{t_unique as one_transform}
use Rattle.lt_check.specs.Conditions.{IsChecked}
use Rattle.lt_canon.specs.Answers.{IsSecondOccurrence, IsRepeatOfCore, IsRepeatOfSource, IsRepeatOf, IsCanonicalFormOf}
use Rattle.lt_canon.specs.Answers.{HasDistinctForm, IsNamedRepeat}
use Rattle.lt_canon.specs.Settled.{IsDistinctForm, IsReplacedWhole, IsSecondInSource, IsSecondInSources}
use Rattle.lt_canon.proofs.Distinctness.{distinct_or_second, second_repeats, one_second}
use Rattle.lt_canon.proofs.TagForm.{core_end, core_normal, cores_formed, cores_reached, extension_end, extensions_end}
use Rattle.lt_canon.proofs.TagForm.{extensions_end_formed, parts_end, parts_reached, replaced, settled_reached}
use Rattle.lt_canon.proofs.TagForm.{settled_rests, end_replaced, tag_end, tag_reached, end_form}
use Rattle.lt_rewrite.specs.Orderings.{ListStep, by_swap, by_drop}
use Rattle.lt_rewrite.specs.Conditions.{MeetsCoreConditions}
use Rattle.lt_rewrite.specs.TagSteps.{TagChange, on_core, on_extensions, on_whole, TagStep, IsReached, CanRepeat}
use Rattle.lt_rewrite.proofs.CoreForms.{VariantLanguagesOnce, variant_languages_once, variant_languages_once_kept, form_distinct}
use Rattle.lt_canon.specs.Laws.{CanonicalOrRepeats}
use Rattle.lt_canon.specs.Corollaries.{RepeatsHaveNoForm, RepeatTogether, EquivalenceIsEquality}
use Rattle.lt_check.proofs.CheckedRegistry.{value_plain, tag_plain}
use Rattle.lt_canon.proofs.EndForms.{star_proper, star_end, star_equivalent, equivalent_end, equivalent_trans}
use Rattle.lt_canon.proofs.EndForms.{equivalent_sym, rest_is_end, reached_is_end}
use Rattle.lt_rewrite.specs.CoreSteps.{IsCoreNormalForm}
use Rattle.lt_canon.specs.RepeatLaws.{RepeatsAreNamed}
use Rattle.lt_tag.proofs.OneTagLemmas.{same_text}
use Rattle.lt_tag.specs.Texts.{text_of}

-- no variant occurs twice in the core
abbrev pub HasDistinctVariants : CoreParts → Type 0
HasDistinctVariants c = Distinct c.variants

-- `P` is true of the source of a `t` extension, if it has one
abbrev pub OfSource : (CoreParts → Type 0) → ExtensionParts → Type 0
OfSource P e = (c : CoreParts) → HasSource e c → P c

-- if an extension repeats no variant in its source, and has a source, no variant occurs twice in that
pub source_told : (e : ExtensionParts) → HasDistinctSource e → OfSource HasDistinctVariants e
source_told e d c h = if_some_is HasDistinctVariants h.parts.source c h.there (d h.transforms h.parts h.formed)

-- if `P` is true of the source of a `t` extension, it is true of the source in its parts `p`, if they have one
told_source : (P : CoreParts → Type 0) (e : ExtensionParts) → OfSource P e → e.singleton ≡ transform → (p : TForm)
    → IsTransform e.subtags p → IfSome p.source P
told_source P e h s p k = grind arith

-- an extension has one source at most
pub one_source : (e : ExtensionParts) (c d : CoreParts) → HasSource e c → HasSource e d → c ≡ d
one_source e c d h k = grind (arith, one_transform)

-- an extension repeats no variant if it is split into parts with a source that repeats none, or with no source
pub of_parts : (e : ExtensionParts) (p : TForm) → IsTransform e.subtags p → IfSome p.source HasDistinctVariants → HasDistinctSource e
of_parts e p k h s q j = subst (λ (x : TForm). IfSome x.source HasDistinctVariants) (one_transform e.subtags p q k j) h

-- a part `b` of a distinct list is distinct
distinct_within : (xs a b c : List (List ℕ)) → xs ≡ a ++ (b ++ c) → Distinct xs → Distinct b
distinct_within xs a b c e d = distinct_from b (λ p v q r k. distinct_at xs (a ++ p) v q (r ++ c) (rw (e, k) (simp append_assoc)) d)

-- an extension in which no subtag occurs twice repeats no variant in its source
pub distinct_subtags : (e : ExtensionParts) → Distinct e.subtags → HasDistinctSource e
distinct_subtags e d = told_source HasDistinctVariants e (λ c h.
    distinct_within e.subtags (c.language ∷ (c.extlangs ++ (option_to_list c.script ++ option_to_list c.region)))
    c.variants (flat_map spell_field h.parts.fields)
    (rw (← h.formed.spelled, h.there) (simp append_assoc)) d)

-- if the source of an extension has the variants `vs`, then the variant `o` that is the first to occur again there, or
-- None, is the one that the extension repeats, or None
pub of_source : (e : ExtensionParts) (p : TForm) (source : CoreParts) (vs : List (List ℕ)) (o : Option (List ℕ))
    → e.singleton ≡ transform → IsTransform e.subtags p → p.source ≡ Some source → vs ≡ source.variants
    → MatchOption o (Distinct vs) (IsSecondOccurrence vs) → MatchOption o (HasDistinctSource e) (IsSecondInSource e)
of_source e p source vs None s k h same d = of_parts e p k (rw h (rw same at d))
of_source e p source vs (Some v) s k h same d =
    record {
      source = source;
      has_source = record { transforms = s; parts = p; formed = k; there = h };
      second = subst (λ l. IsSecondOccurrence l v) same d;
    }

-- if the extension at index `i` repeats the variant `v` in its source, one of the extensions does
pub sources_here : (es : List ExtensionParts) (i : ℕ) (e : ExtensionParts) (v : List ℕ) → i < length es
    → e ≡ get_or es i e → IsSecondInSource e v → IsSecondInSources es v
sources_here es i e v l h k = record { before = take i es; extension = e; after = drop (i + 1) es; there = whole_turn es i e l h; own = k }

-- if neither the extensions before index `i` nor the one there repeats a variant in its source, none before the next
-- index does
pub sources_more : (es : List ExtensionParts) (i : ℕ) (e : ExtensionParts) → i < length es → e ≡ get_or es i e
    → HasDistinctSource e → AllByRecursion HasDistinctSource (take i es)
    → AllByRecursion HasDistinctSource (take (i + 1) es)
sources_more es i e l h d all = rw (take_turn es i e l h) (all_more HasDistinctSource (take i es) e all d)

-- it can't be that a source repeats a variant and that none does
pub source_repeats : (es : List ExtensionParts) (v : List ℕ) → IsSecondInSources es v → AllByRecursion HasDistinctSource es → ⊥
source_repeats es v h d =
    second_repeats h.own.source.variants v h.own.second
    (source_told h.extension (all_at HasDistinctSource es h.before h.extension h.after h.there d) h.own.source
    h.own.has_source)

module _ (R : List EntryParts) where
  -- the source of a proper extension repeats no variant, or one is the first to occur again
  source_or_second : (e : ExtensionParts) → IsProperExtension R e → HasDistinctSource e ⊎ ((v : List ℕ) × IsSecondInSource e v)
  source_or_second e P = elim (cases_eq e.singleton transform) [
    | inl s ↦ let m = P s in
        by m.0 s m.1 m.0.source refl
    | inr n ↦ inl (λ s. absurd (n s))
  ]
    where
      by : (p : TForm) → e.singleton ≡ transform → IsTransform e.subtags p → (o : Option CoreParts) → p.source ≡ o
          → HasDistinctSource e ⊎ ((v : List ℕ) × IsSecondInSource e v)
      by p s k None h = inl (of_parts e p k (rw h tt))
      by p s k (Some c) h = elim (distinct_or_second c.variants) [
        | inl d ↦ inl (of_source e p c c.variants None s k h refl d)
        | inr w ↦ inr (w.0, of_source e p c c.variants (Some w.0) s k h refl w.1)
      ]

  -- the sources of proper extensions repeat no variant, or `v` is the first to occur again in one of them
  pub sources_or_second : (es : List ExtensionParts) → AllByRecursion (IsProperExtension R) es
      → AllByRecursion HasDistinctSource es ⊎ ((v : List ℕ) × IsSecondInSources es v)
  sources_or_second [] P = inl tt
  sources_or_second (e ∷ es) P = elim (source_or_second e P.0) [
    | inr a ↦ inr (a.0, record { before = []; extension = e; after = es; there = refl; own = a.1 })
    | inl a ↦ elim (sources_or_second es P.1) [
      | inl b ↦ inl (a, b)
      | inr b ↦
          inr (
            b.0,
            record {
              before = e ∷ b.1.before;
              extension = b.1.extension;
              after = b.1.after;
              there = ap (λ l. e ∷ l) b.1.there;
              own = b.1.own;
            },
          )
    ]
  ]

module _ (R : List EntryParts) (C : IsChecked R) where
  -- an extension in its normal form has the core normal form of its source
  pub source_end : (e : ExtensionParts) (c : CoreParts) → HasSource e c → HasSource (extension_end R C e) (core_end R C c)
  source_end e c h =
      let n = normal_parts R C.registry C.passes.core_conditions e h.parts h.transforms h.formed in
      record {
        transforms = normal_singleton R C.registry C.passes.core_conditions e ∙ h.transforms;
        parts = n.parts;
        formed = n.formed;
        there = n.source ∙ ap (option_map (core_end R C)) h.there;
      }

  -- a variant that an extension in its normal form repeats is repeated in the core normal form of its source
  own_repeat : (e : ExtensionParts) (v : List ℕ) → IsProperExtension R e → IsSecondInSource (extension_end R C e) v
      → (c : CoreParts) × HasSource e c × IsRepeatOfCore R c v
  own_repeat e v P k =
      let s : e.singleton ≡ transform = sym (normal_singleton R C.registry C.passes.core_conditions e) ∙ k.has_source.transforms in
      let m = P s in
      let n = normal_parts R C.registry C.passes.core_conditions e m.0 s m.1 in
      let there : option_map (core_end R C) m.0.source ≡ Some k.source = sym n.source
      ∙ ap (λ (p : TForm). p.source) (one_transform (extension_end R C e).subtags n.parts k.has_source.parts
      n.formed k.has_source.formed) ∙ k.has_source.there in
      let at : (c : CoreParts) × (m.0.source ≡ Some c) × (core_end R C c ≡ k.source) = grind arith in (
        at.0,
        record { transforms = s; parts = m.0; formed = m.1; there = at.1 },
        record {
          form = core_end R C at.0;
          normal = core_normal R C at.0;
          second = subst (λ (x : CoreParts). IsSecondOccurrence x.variants v) (sym at.2) k.second;
        },
      )

  -- a variant that the extensions `fs`, the normal form of `es`, repeat in a source is one that a refusal of `es` names
  pub named_source : (es fs : List ExtensionParts) (v : List ℕ) → AllByRecursion (IsProperExtension R) es
      → IsNormalForm (ExtensionsStep R) es fs → IsSecondInSources fs v → IsRepeatOfSource R es v
  named_source es fs v P n k =
      let Q : ExtensionParts → Type 0 = λ f. (w : List ℕ) → IsSecondInSource f w → IsRepeatOfSource R es w in
      let each : AllByRecursion (λ e. Q (extension_end R C e)) es = all_from (λ e. Q (extension_end R C e)) es (λ b e a there w j.
      let r = own_repeat e w (all_at (IsProperExtension R) es b e a there P) j in
      record { before = b; extension = e; after = a; there = there; source = r.0; has_source = r.1; repeat = r.2 }) in
      let ends = star_keeps (AllByRecursion Q) (λ x y s. all_step Q x y s)
      (extensions_ordered R C.registry C.passes.core_conditions es)
      (all_mapped (λ e. Q (extension_end R C e)) Q (extension_end R C) (λ e h. h) es each) in
      all_at Q fs k.before k.extension k.after k.there
      (subst (AllByRecursion Q) (normal_is_form (extensions_end_formed R C) es fs n) ends) v k.own

-- `ys` is `xs` in another order: what is true of each part of `ys` is true of each part of `xs`
unordered : {A : Type 0} (P : A → Type 0) (cmp : A → A → Ordering) {xs ys : List A} → Star (ListStep false cmp) xs ys
    → AllByRecursion P ys → AllByRecursion P xs
unordered P cmp done h = h
unordered P cmp ((then) (by_swap before a b after s) r) h =
    subst (AllByRecursion P) (sym s.there) (all_swapped P before b a after (subst (AllByRecursion P) s.result (unordered P cmp r h)))
unordered P cmp ((then) (by_drop before a between b after o s) r) h = cc

-- no variant with a language value occurs twice in the core, nor in a source
abbrev VariantLanguagesOnceTag : List EntryParts → TagForm → Type 0
VariantLanguagesOnceTag R (LangTag c es ps) = VariantLanguagesOnce R c × AllByRecursion (OfSource (VariantLanguagesOnce R)) es
VariantLanguagesOnceTag R _ = Unit {0}

-- a tag that repeats no variant has none with a language value twice
distinct_once : (R : List EntryParts) → MeetsCoreConditions R → (t : TagForm) → RepeatsNoVariant t → VariantLanguagesOnceTag R t
distinct_once R C (LangTag c es ps) h = (
  variant_languages_once R C c h.0,
  AllByRecursion-weaker _ _ (λ e d k s. variant_languages_once R C k (source_told e d k s)) es h.1,
)
distinct_once R C _ h = tt

module _ (R : List EntryParts) (C : IsChecked R) where
  -- no variant with a language value occurs twice in the source of the extension, if it has one
  abbrev Once : ExtensionParts → Type 0
  Once = OfSource (VariantLanguagesOnce R)

  -- a step on an extension makes no second variant with a language value in its source
  extension_once : (e f : ExtensionParts) → ExtensionStep R e f → Once e → Once f
  extension_once e f (in_unicode p q is_u kept _ _ _) h k s = absurd (omega (arith, s.transforms, kept, is_u))
  extension_once e f (in_transform p q is_t _ from to (on_source c d there here step _)) h k s =
      subst (VariantLanguagesOnce R)
      (one_source f d k (record { transforms = s.transforms; parts = q; formed = to; there = here }) s)
      (variant_languages_once_kept R C.passes.core_conditions c d step
      (h c (record { transforms = is_t; parts = p; formed = from; there = there })))
  extension_once e f (in_transform p q is_t _ from to (on_fields g _)) h k s =
      h k (record {
        transforms = is_t;
        parts = p;
        formed = from;
        there = sym g
            ∙ ap (λ (r : TForm). r.source) (sym (one_transform f.subtags s.parts q s.formed to)) ∙ s.there;
      })

  -- a step on extensions makes no second variant with a language value in a source
  extensions_once : (es fs : List ExtensionParts) → ExtensionsStep R es fs → AllByRecursion Once es → AllByRecursion Once fs
  extensions_once es fs (inside before e f after there result s) h =
      let all : AllByRecursion Once (before ++ e ∷ after) = rw there at h in
      rw result (all_replaced Once before e f after all (extension_once e f s (all_middle Once before e after all)))
  extensions_once es fs (among s) h = all_step Once es fs s h

  -- a change of a tag makes no second variant with a language value in the core or in a source
  change_once : (t u : TagForm) → TagChange R t u → VariantLanguagesOnceTag R t → VariantLanguagesOnceTag R u
  change_once t u (on_core c d es ps from to s) h = let k = rw from at h in
      rw to (variant_languages_once_kept R C.passes.core_conditions c d s k.0, k.1)
  change_once t u (on_extensions c es fs ps from to s) h = let k = rw from at h in rw to (k.0, extensions_once es fs s k.1)
  change_once t u (on_whole _ has) h = distinct_once R C.passes.core_conditions u (value_plain R C t u has).valid.distinct

  -- `r` is `s` with its value taken, or `s` itself: if `r` repeats no variant, nor does `s`, since what is replaced
  -- whole is grandfathered or valid
  replaced_distinct : (s r : TagForm) → IsReplacedWhole R s r → RepeatsNoVariant r → RepeatsNoVariant s
  replaced_distinct s r (inl v) d = elim (tag_plain R C s v.value v.has) [ inl g ↦ rw g.is tt | inr g ↦ g.valid.distinct ]
  replaced_distinct s r (inr y) d = rw y.same at d

  -- a tag without a variant with a language value twice repeats no variant if its parts in their normal forms repeat
  -- none
  parts_distinct : (t : TagForm) → VariantLanguagesOnceTag R t → RepeatsNoVariant (parts_end R C t) → RepeatsNoVariant t
  parts_distinct (LangTag c es ps) h d = (
    form_distinct R C.passes.core_conditions c h.0 d.0,
    all_both Once (λ e. HasDistinctSource (extension_end R C e)) HasDistinctSource
        (λ e h d. told_source HasDistinctVariants e (λ c s. form_distinct R C.passes.core_conditions c (h c s)
        (source_told (extension_end R C e) d (core_end R C c) (source_end R C e c s)))) es h.1
        (all_unmapped HasDistinctSource (extension_end R C) es
        (unordered HasDistinctSource singleton_cmp (extensions_ordered R C.registry C.passes.core_conditions es)
        d.1)),
  )
  parts_distinct _ h d = tt

  -- where steps can repeat a variant of a valid tag, its end form repeats one
  pub repeats_at_end : (t : TagForm) → IsValid R t → CanRepeat R t → RepeatsNoVariant (tag_end R C t) → ⊥
  repeats_at_end t V r d =
      let once = star_keeps (VariantLanguagesOnceTag R) (λ a b s k. change_once a b s.change k) r.reached
      (distinct_once R C.passes.core_conditions t V.distinct) in
      let there = rw (star_end (end_form R C) r.reached) at d in
      r.repeats (parts_distinct r.tag once (replaced_distinct (parts_end R C r.tag) (tag_end R C r.tag) (end_replaced R C r.tag) there))

  -- a canonical tag `r` that steps reach from a valid tag `t` is its canonical form
  pub reached_canonical : (t r : TagForm) → IsValid R t → IsReached R t r → Rests (TagStep R) r → RepeatsNoVariant r
      → IsCanonicalFormOf R t r
  reached_canonical t r V to h d = record {
    valid = V;
    canonical = record { valid = record { proper = star_proper (end_form R C) to V.proper; distinct = d }; at_rest = h };
    reached = to;
    repeats_none = λ k. repeats_at_end t V k (rw (reached_is_end (end_form R C) t r V.proper to h) d);
  }

  -- if the parts of a tag `t` in their normal forms repeat no variant, then `r`, the tag of these with its value taken,
  -- is the canonical form of `t`
  pub end_canonical : (t r : TagForm) → IsValid R t → RepeatsNoVariant (parts_end R C t)
      → IsReplacedWhole R (parts_end R C t) r → IsCanonicalFormOf R t r
  end_canonical t r V d w =
      reached_canonical t r V (settled_reached R C t r w V.proper) (settled_rests R C t r w)
      ((replaced R C (parts_end R C t) r w).distinct d)

  -- if the core normal form of a core repeats `v`, steps can repeat a variant of the langtag, and the refusal names `v`
  pub core_repeats : (c : CoreParts) (es : List ExtensionParts) (ps : List (List ℕ)) (v : List ℕ)
      → IsValid R (LangTag c es ps) → IsRepeatOfCore R c v → IsRepeatOf R (LangTag c es ps) v
  core_repeats c es ps v V h = record {
    valid = V;
    repeats = record {
      tag = LangTag h.form es ps;
      reached = cores_reached R C h.normal.reached es ps V.proper;
      repeats = λ d. second_repeats h.form.variants v h.second d.0;
    };
    named = inl h;
  }

  -- if the core in normal form, `d`, repeats no variant, but a source of the extensions in normal form, `fs`, repeats
  -- `v`, steps can repeat a variant of the langtag, and a refusal names `v`
  pub source_refused : (c d : CoreParts) (es fs : List ExtensionParts) (ps : List (List ℕ)) (v : List ℕ)
      → IsValid R (LangTag c es ps) → IsDistinctForm R c d → IsNormalForm (ExtensionsStep R) es fs
      → IsSecondInSources fs v → IsRepeatOf R (LangTag c es ps) v
  source_refused c d es fs ps v V n m k = record {
    valid = V;
    repeats = record {
      tag = LangTag d fs ps;
      reached = parts_reached R C n.normal.reached m.reached ps V.proper;
      repeats = λ x. source_repeats fs v k x.1;
    };
    named = inr (record { form = d; normal = n.normal; distinct = n.distinct }, named_source R C es fs v V.proper.parts.extensions m k);
  }

  -- the end form of a valid tag is its canonical form, or steps can repeat a variant
  form_or_repeat : (t : TagForm) → IsValid R t → IsCanonicalFormOf R t (tag_end R C t) ⊎ ((v : List ℕ) × IsRepeatOf R t v)
  form_or_repeat (LangTag c es ps) V =
      let n : IsCoreNormalForm R c (core_end R C c) = core_normal R C c in
      let m = form_is_normal (extensions_end_formed R C) es in
      let P : IsProper R (parts_end R C (LangTag c es ps)) = star_proper (end_form R C)
      (parts_reached R C n.reached m.reached ps V.proper) V.proper in
      elim (distinct_or_second (core_end R C c).variants) [
        | inr v ↦ inr (v.0, core_repeats c es ps v.0 V (record { form = core_end R C c; normal = n; second = v.1 }))
        | inl d ↦ elim (sources_or_second R (extensions_end R C es) P.parts.extensions) [
          | inr v ↦ inr (
            v.0,
            source_refused c (core_end R C c) es (extensions_end R C es) ps v.0 V
                (record { normal = n; distinct = d }) m v.1,
          )
          | inl e ↦ inl (end_canonical (LangTag c es ps) (tag_end R C (LangTag c es ps)) V (d, e) (end_replaced R C (LangTag c es ps)))
        ]
      ]
  form_or_repeat t V = inl (end_canonical t (tag_end R C t) V tt (end_replaced R C t))

  -- a valid tag has a canonical form, or steps can repeat a variant of it
  pub canonical_or_repeats : CanonicalOrRepeats R
  canonical_or_repeats t V = elim (form_or_repeat t V) [
    | inl F ↦ inl (tag_end R C t, F)
    | inr n ↦ inr n.1.repeats
  ]

  -- a valid tag of which steps can repeat a variant is equivalent to no canonical tag
  pub repeats_have_no_form : RepeatsHaveNoForm R
  repeats_have_no_form t c V r k e =
      repeats_at_end t V r
      (subst RepeatsNoVariant
      (sym (equivalent_end (end_form R C) e ∙ rest_is_end (end_form R C) c k.valid.proper k.at_rest))
      k.valid.distinct)

  -- of two equivalent valid tags, steps can repeat a variant of both or of neither
  pub repeat_together : RepeatTogether R
  repeat_together t u V W e r =
      let same : tag_end R C t ≡ tag_end R C u = equivalent_end (end_form R C) e in
      record {
        tag = tag_end R C u;
        reached = tag_reached R C u W.proper;
        repeats = λ d. repeats_at_end t V r
            (subst RepeatsNoVariant (sym same) d);
      }

  -- the canonical form of a tag is its end form
  pub form_is_end : (t c : TagForm) → IsCanonicalFormOf R t c → tag_end R C t ≡ c
  form_is_end t c h = reached_is_end (end_form R C) t c h.valid.proper h.reached h.canonical.at_rest

  -- tags with canonical forms are equivalent exactly if these are equal
  pub equivalence_is_equality : EquivalenceIsEquality R
  equivalence_is_equality = record {
    equal = λ t u c d h k e. sym (form_is_end t c h) ∙ equivalent_end (end_form R C) e ∙ form_is_end u d k;
    equivalent = λ t u c h k. equivalent_trans (star_equivalent h.reached) (equivalent_sym (star_equivalent k.reached));
  }

module _ (R : List EntryParts) (C : IsChecked R) where
  -- a core has one core normal form
  one_form : (c d e : CoreParts) → IsCoreNormalForm R c d → IsCoreNormalForm R c e → d ≡ e
  one_form c d e n m = sym (normal_is_form (cores_formed R C) c d n) ∙ normal_is_form (cores_formed R C) c e m

  -- only one variant is the first to occur again in the core normal form of a core
  one_core_repeat : (c : CoreParts) (v w : List ℕ) → IsRepeatOfCore R c v → IsRepeatOfCore R c w → v ≡ w
  one_core_repeat c v w h k = one_second k.form.variants v w (subst (λ (x : CoreParts). IsSecondOccurrence x.variants v)
      (one_form c h.form k.form h.normal k.normal) h.second) k.second

  -- it can't be that a variant is repeated in the core normal form of a core and that none is
  core_repeats_not : (c : CoreParts) (v : List ℕ) → IsRepeatOfCore R c v → HasDistinctForm R c → ⊥
  core_repeats_not c v h k = second_repeats h.form.variants v h.second
      (subst (λ (x : CoreParts). Distinct x.variants) (one_form c k.form h.form k.normal h.normal) k.distinct)

  -- of extensions with different singletons, one variant is the first that a source repeats: only one is a `t`
  -- extension
  one_source_repeat : (es : List ExtensionParts) (v w : List ℕ)
      → Distinct (map (λ (x : ExtensionParts). x.singleton) es) → IsRepeatOfSource R es v → IsRepeatOfSource R es w
      → v ≡ w
  one_source_repeat es v w d h k =
      let e : h.extension ≡ k.extension = (distinct_cut h.before k.before h.extension k.extension h.after k.after
      (sym h.there ∙ k.there) (rw h.there at d) (h.has_source.transforms ∙ sym k.has_source.transforms)).at in
      let s : h.source ≡ k.source = one_source k.extension h.source k.source
      (subst (λ x. HasSource x h.source) e h.has_source) k.has_source in
      one_core_repeat k.source v w (subst (λ x. IsRepeatOfCore R x v) s h.repeat) k.repeat

  -- a refusal of a valid tag names one variant
  pub one : (t : TagForm) (v w : List ℕ) → IsValid R t → IsNamedRepeat R t v → IsNamedRepeat R t w → v ≡ w
  one (LangTag c es ps) v w V (inl h) (inl k) = one_core_repeat c v w h k
  one (LangTag c es ps) v w V (inl h) (inr k) = absurd (core_repeats_not c v h k.0)
  one (LangTag c es ps) v w V (inr h) (inl k) = absurd (core_repeats_not c w k h.0)
  one (LangTag c es ps) v w V (inr h) (inr k) = one_source_repeat es v w V.proper.parts.singletons h.1 k.1
  one _ v w V h k = absurd h

  -- where steps can repeat a variant of a valid tag, a refusal names one, and only one
  pub repeats_are_named : RepeatsAreNamed R
  repeats_are_named = record {
    some = λ t V r. elim (form_or_repeat R C t V) [ inl F ↦ absurd (F.repeats_none r) | inr n ↦ (n.0, n.1.named) ];
    one = one;
  }

-- two canonical forms are equal exactly if their texts are
pub same_form_text : (R : List EntryParts) (t u c d : TagForm) → IsCanonicalFormOf R t c → IsCanonicalFormOf R u d
    → (text_of c ≡ text_of d) ↔ (c ≡ d)
same_form_text R t u c d h k = same_text c d h.canonical.valid.proper.tag.tag k.canonical.valid.proper.tag.tag
