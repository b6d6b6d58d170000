-- Under the conditions C1 to C6 (`MeetsCoreConditions`) each core has exactly one core normal form (the law
-- `one_core_normal_form`), which `normal_core` gives: each subtag that a step may replace is at the end of its chain of
-- values, and no VariantLanguage step is left. The language value of a variant is its preferred value, if that is a
-- language. It has a VariantLanguage step beside a language that is one of its Prefixes, which this value replaces.
use Rattle.std.proofs.Common.{◌≡◌, ℕ, zero, suc, Bool, true, false, List, [], ◌∷◌, ◌++◌, Option, Some, None, refl, sym}
use Rattle.std.proofs.Common.{ap, ◌∙◌, subst, length, arith, map, cond, not, is_some, filter, get_or, inl, inr}
use Rattle.std.specs.List.{AllByRecursion}
use Rattle.std.specs.Option.{option_map}
use Rattle.std.proofs.lemmas.Bool.{cond-true, cond_both}
use Rattle.std.proofs.lemmas.List.{map-append, length-append}
use Rattle.std.proofs.lemmas.Option.{same_Some, none-some}
use Rattle.std.proofs.lemmas.List.Elements.{filter-append, All-map, recursion_from_All}
use Rattle.lt_tag.specs.Parts.{CoreParts}
use Rattle.lt_registry.specs.Parts.{EntryParts}
use Rattle.lt_registry.specs.Entries.{preferred_value, prefixes, has_prefix, variant_value, language_value, replacement}
use Rattle.lt_registry.specs.Validity.{Distinct}
use Rattle.lt_registry.specs.declared.entries.Kind.{Kind}
use Rattle.lt_registry.specs.declared.entries.Kind.TheVariants as kinds
use Rattle.lt_rewrite.specs.CoreSteps.{language_beside, CoreStep, IsCoreNormalForm, EndsIn, chase}
use Rattle.lt_rewrite.specs.Rewriting.{Star, done, then as onward}
use Rattle.lt_rewrite.specs.Conditions.{MeetsCoreConditions, next_value}
use Rattle.lt_rewrite.specs.Laws.{HasOneNormalForm, StepsKeepNormalForm}
use Rattle.lt_rewrite.proofs.PartLists.{all_middle, all_without, all_mapped}
use Rattle.lt_rewrite.proofs.Chains.{IsEnd, end_same, end_next, end_keeps}
use Rattle.lt_rewrite.proofs.Stars.{star_trans}
use Rattle.lt_rewrite.proofs.Entries.{chains_end, variant_languages_final, no_language, variant_language_is}
use Rattle.lt_rewrite.proofs.NormalForms.{IsFormOf, star_form, form_is_normal, normal_is_form}
use Rattle.lt_rewrite.proofs.CoreSteps.{AtRest, Pick, Picked, along, by_extlang, by_region, by_script, by_variant}
use Rattle.lt_rewrite.proofs.CoreSteps.{by_variant_language, distinct_filter, distinct_unmap, distinct_without}
use Rattle.lt_rewrite.proofs.CoreSteps.{each_step, filter_without, language_reached, merge, one_leftmost, pick, rests}
use Rattle.lt_rewrite.proofs.CoreSteps.{step}

-- the variant has a language value
pub has_variant_language : List EntryParts → List ℕ → Bool
has_variant_language R v = is_some (language_value R v)

-- the variant has no language value, and so no VariantLanguage step drops it
abbrev staying : List EntryParts → List ℕ → Bool
staying R v = not (has_variant_language R v)

-- no variant with a language value occurs twice
abbrev pub VariantLanguagesOnce : List EntryParts → CoreParts → Type 0
VariantLanguagesOnce R c = Distinct (filter (has_variant_language R) c.variants)

-- the core of a language, extlangs, a script, a region and variants, in this order
abbrev core : List ℕ → List (List ℕ) → Option (List ℕ) → Option (List ℕ) → List (List ℕ) → CoreParts
core l xs sc re vs = record { language = l; extlangs = xs; script = sc; region = re; variants = vs }

-- the script and the region, if there are some, have no value
record AtEnds (R : List EntryParts) (sc re : Option (List ℕ)) : Type 0 where
  script : (s : List ℕ) → sc ≡ Some s → preferred_value R kinds.Script s ≡ None
  region : (s : List ℕ) → re ≡ Some s → preferred_value R kinds.Region s ≡ None

-- steps lead from the core `c` to `d`, which is at rest, so that none leads from it, and keep each variant that has no
-- language value
record Led (R : List EntryParts) (c d : CoreParts) : Type 0 where
  reached : Star (CoreStep R) c d
  rest : AtRest R d
  kept : filter (staying R) d.variants ≡ filter (staying R) c.variants

-- if `g` gives the ends of chains, no value follows the subtag `s` that it makes of an optional subtag
end_of_some : (f : List ℕ → Option (List ℕ)) (g : List ℕ → List ℕ) → IsEnd f g → (o : Option (List ℕ)) (s : List ℕ)
    → option_map g o ≡ Some s → f s ≡ None
end_of_some f g E None s e = cc
end_of_some f g E (Some t) s e = subst (λ u. f u ≡ None) (same_Some (g t) s e) (E.ends t).2

module _ (R : List EntryParts) (C : MeetsCoreConditions R) where
  -- the end of the chain of values of a kind that begins with a subtag
  pub last : Kind → List ℕ → List ℕ
  last k s = chase (next_value R k) (chains_end R C.chains k s).0 s

  -- `last` gives the end of the chain of each subtag of the kind
  at_last : (k : Kind) → IsEnd (next_value R k) (last k)
  unfolding last
  at_last k = record { ends = λ s. let e = chains_end R C.chains k s in (e.0, refl, e.1) }

  -- the variant has no variant as its value
  abbrev Final : List ℕ → Type 0
  Final v = variant_value R v ≡ None

  -- what `go` makes of the language and the variants to which the leftmost VariantLanguage step beside `x` leads, with
  -- the new language at the end of its chain; `x` and `vs` themselves if no variant has such a step
  abbrev taken : (List ℕ → List (List ℕ) → List ℕ × List (List ℕ)) → (x : List ℕ) (vs : List (List ℕ))
      → Pick (language_beside R x) vs → List ℕ × List (List ℕ)
  taken go x vs (inl p) = go (last kinds.Language p.value) (p.before ++ p.after)
  taken go x vs (inr none) = (x, vs)

  -- the language and the variants to which at most `n` VariantLanguage steps lead from a language `x` without a value
  -- and the variants `vs`, each new language being led to the end of its chain
  abbrev settled : ℕ → List ℕ → List (List ℕ) → List ℕ × List (List ℕ)
  settled zero x vs = (x, vs)
  settled (suc n) x vs = taken (settled n) x vs (pick (language_beside R x) vs)

  -- the normal form of a core of these extlangs, language, script, region and variants, the last three of which are at
  -- the ends of their chains
  abbrev form_on : List (List ℕ) → List ℕ → Option (List ℕ) → Option (List ℕ) → List (List ℕ) → CoreParts
  form_on [] l sc re vs = let p = settled (length vs) (last kinds.Language l) vs in core p.0 [] sc re p.1
  form_on (x ∷ []) l sc re vs = form_on [] (replacement R x) sc re vs
  form_on (x ∷ y ∷ r) l sc re vs = core l (x ∷ y ∷ r) sc re vs

  -- the normal form of a core, under the conditions C1 to C6
  pub normal_core : CoreParts → CoreParts
  normal_core c = form_on c.extlangs c.language (option_map (last kinds.Script) c.script)
      (option_map (last kinds.Region) c.region) (map (last kinds.Variant) c.variants)

  -- a variant without a language value has no VariantLanguage step
  none_beside : (l v : List ℕ) → language_value R v ≡ None → language_beside R l v ≡ None
  none_beside l v e = cond_both (has_prefix (prefixes R kinds.Variant v) l) (language_value R v) None (λ x. x ≡ None) (λ _. e) (λ _. refl)

  -- a variant and the end of its chain have the same VariantLanguage step with a language `l`, or both none
  variant_language_last : (l v : List ℕ) → language_beside R l (last kinds.Variant v) ≡ language_beside R l v
  variant_language_last l v =
      end_keeps (at_last kinds.Variant) (λ s. language_beside R l s ≡ language_beside R l v)
      (λ s t h p. let n = no_language R C s t h in none_beside l t n.1 ∙ sym (none_beside l s n.0) ∙ p) v refl

  -- if some variant has a VariantLanguage step, that of the leftmost one, `q`, is taken first
  settled_some : (n : ℕ) (x : List ℕ) (vs : List (List ℕ)) (q : Picked (language_beside R x) vs)
      → settled (suc n) x vs ≡ settled n (last kinds.Language q.value) (q.before ++ q.after)
  settled_some n x vs q =
      elim (pick (language_beside R x) vs) as (λ o. taken (settled n) x vs o
      ≡ settled n (last kinds.Language q.value) (q.before ++ q.after)) [
        | inl p ↦
            let one = one_leftmost (language_beside R x) p.before q.before p.variant q.variant p.value q.value p.after
            q.after (sym p.there ∙ q.there) p.has q.has p.leftmost q.leftmost in
            λ i. settled n (last kinds.Language (one.0 i)) (one.1 i)
        | inr none ↦
            let P : List ℕ → Type 0 = λ u. language_beside R x u ≡ None in
            absurd (none-some q.value (sym (all_middle P q.before q.variant q.after (subst (AllByRecursion P) q.there none)) ∙ q.has))
      ]

  -- every core step keeps the normal form of a core
  step_keeps : (c d : CoreParts) → CoreStep R c d → normal_core c ≡ normal_core d
  unfolding normal_core
  step_keeps c =
      let sc = option_map (last kinds.Script) c.script in
      let re = option_map (last kinds.Region) c.region in
      let g : List ℕ → List ℕ = last kinds.Variant in
      let vs = map g c.variants in
      let settle : List ℕ → CoreParts = λ x. let p = settled (length vs) x vs in core p.0 [] sc re p.1 in
      let at : List (List ℕ) → CoreParts = λ xs. form_on xs c.language sc re vs in
      each_step R c (λ d. normal_core c ≡ normal_core d) (record {
        extlang = λ x one. ap at one;
        language = λ v none has.
            ap at none ∙ ap settle (end_next (at_last kinds.Language) c.language v has) ∙ ap (λ xs. form_on xs v sc re vs) (sym none);
        script = λ s v there has.
            ap (λ o. form_on c.extlangs c.language o re vs) (ap (option_map (last kinds.Script)) there
            ∙ ap Some (end_next (at_last kinds.Script) s v has));
        region = λ s v there has.
            ap (λ o. form_on c.extlangs c.language sc o vs) (ap (option_map (last kinds.Region)) there
            ∙ ap Some (end_next (at_last kinds.Region) s v has));
        variant = λ before v w after there has.
            ap (form_on c.extlangs c.language sc re)
            (ap (map g) there ∙ map-append g before (v ∷ after)
            ∙ ap (λ u. map g before ++ u ∷ map g after) (end_next (at_last kinds.Variant) v w has)
            ∙ sym (map-append g before (w ∷ after)));
        variant_language = λ before v m after none there has leftmost.
            let P : List ℕ → Type 0 = λ u. language_beside R c.language u ≡ None in
            let b = map g before in
            let a = map g after in
            let same : vs ≡ b ++ g v ∷ a = ap (map g) there ∙ map-append g before (v ∷ after) in
            let n : length vs ≡ suc (length (b ++ a)) = omega (arith, ap length same, length-append b (g v ∷ a), length-append b a) in
            let picked : Picked (language_beside R c.language) vs = record {
              before = b;
              variant = g v;
              after = a;
              value = m;
              there = same;
              has = variant_language_last c.language v
                  ∙ has;
              leftmost = all_mapped P P g (λ u h. variant_language_last c.language u ∙ h) before leftmost;
            } in
            ap at none
            ∙ ap settle (end_same (at_last kinds.Language) c.language (variant_languages_final R C c.language v m has).final)
            ∙ ap (λ (p : List ℕ × List (List ℕ)). core p.0 [] sc re p.1) (ap (λ k. settled k c.language vs) n
            ∙ settled_some (length (b ++ a)) c.language vs picked)
            ∙ ap (form_on [] m sc re) (sym (map-append g before after))
            ∙ ap (λ xs. form_on xs m sc re (map g (before ++ after))) (sym none);
      })

  -- a variant with a VariantLanguage step has a language value
  some_variant_language : (l v m : List ℕ) → language_beside R l v ≡ Some m → has_variant_language R v ≡ true
  unfolding has_variant_language
  some_variant_language l v m e = ap is_some (variant_language_is R l v m e).1

  -- the test `has_variant_language` fails of a variant without a language value
  stays : (v : List ℕ) → language_value R v ≡ None → has_variant_language R v ≡ false
  unfolding has_variant_language
  stays v e = ap is_some e

  -- steps lead from a core without extlangs, all of whose subtags are at the ends of their chains, to what `settled`
  -- gives, from which none leads
  settled_led : (sc re : Option (List ℕ)) → AtEnds R sc re → (n : ℕ) (x : List ℕ) (vs : List (List ℕ)) → length vs ≡ n
      → preferred_value R kinds.Language x ≡ None → AllByRecursion Final vs
      → (let p = settled n x vs in Led R (core x [] sc re vs) (core p.0 [] sc re p.1))
  settled_led sc re E zero x [] l h k =
      record {
        reached = done;
        rest = record {
          extlang = λ y e. cc;
          language = λ _. h;
          script = E.script;
          region = E.region;
          variant = tt;
          variant_language = λ _. tt;
        };
        kept = refl;
      }
  settled_led sc re E zero x (v ∷ vs) l h k = cc
  settled_led sc re E (suc n) x vs l h k =
      elim (pick (language_beside R x) vs) as (λ o. let p = taken (settled n) x vs o in
      Led R (core x [] sc re vs) (core p.0 [] sc re p.1)) [
        | inl p ↦
            let m = p.value in
            let us = p.before ++ p.after in
            let shorter : length us ≡ n = omega (
              arith,
              l,
              ap length p.there,
              length-append p.before (p.variant ∷ p.after),
              length-append p.before p.after,
            ) in
            let led : (let q = settled n (last kinds.Language m) us in
            Led R (core (last kinds.Language m) [] sc re us) (core q.0 [] sc re q.1)) =
            settled_led sc re E n (last kinds.Language m) us shorter ((at_last kinds.Language).ends m).2
            (all_without Final p.before p.variant p.after (subst (AllByRecursion Final) p.there k)) in
            record {
              reached = onward (by_variant_language R (core x [] sc re vs) p.before p.variant m p.after refl p.there p.has p.leftmost)
                  (star_trans (language_reached R (core m [] sc re us) (core (last kinds.Language m) [] sc re us) m
                  (last kinds.Language m) refl refl ((at_last kinds.Language).ends m) refl) led.reached);
              rest = led.rest;
              kept = led.kept
                  ∙ sym (ap (filter (staying R)) p.there
                  ∙ filter_without (staying R) p.before p.variant p.after (ap not
                  (some_variant_language x p.variant m p.has)));
            }
        | inr none ↦
            record {
              reached = done;
              rest = record {
                extlang = λ y e. cc;
                language = λ _. h;
                script = E.script;
                region = E.region;
                variant = k;
                variant_language = λ _. none;
              };
              kept = refl;
            }
      ]

  -- steps lead from a core whose script, region and variants are at the ends of their chains to its `form_on`, from
  -- which none leads
  form_led : (xs : List (List ℕ)) (l : List ℕ) (sc re : Option (List ℕ)) (vs : List (List ℕ)) → AtEnds R sc re
      → AllByRecursion Final vs → Led R (core l xs sc re vs) (form_on xs l sc re vs)
  form_led [] l sc re vs E k =
      let end = (at_last kinds.Language).ends l in
      let led : (let p = settled (length vs) (last kinds.Language l) vs in
      Led R (core (last kinds.Language l) [] sc re vs) (core p.0 [] sc re p.1)) =
      settled_led sc re E (length vs) (last kinds.Language l) vs refl end.2 k in
      record {
        reached = star_trans (language_reached R (core l [] sc re vs) (core (last kinds.Language l) [] sc re vs)
            l (last kinds.Language l) refl refl end refl) led.reached;
        rest = led.rest;
        kept = led.kept;
      }
  form_led (x ∷ []) l sc re vs E k =
      let led : Led R (core (replacement R x) [] sc re vs) (form_on [] (replacement R x) sc re vs) = form_led []
      (replacement R x) sc re vs E k in
      record { reached = onward (by_extlang R (core l (x ∷ []) sc re vs) x refl) led.reached; rest = led.rest; kept = led.kept }
  form_led (x ∷ y ∷ r) l sc re vs E k =
      record {
        reached = done;
        rest = record {
          extlang = λ z e. cc;
          language = λ e. absurd (cc);
          script = E.script;
          region = E.region;
          variant = k;
          variant_language = λ e. absurd (cc);
        };
        kept = refl;
      }

  -- steps lead from a core whose script, region and variants were led to the ends of their chains to the normal form of
  -- the whole core, from which none leads
  led : (c : CoreParts)
      → Led R (core c.language c.extlangs (option_map (last kinds.Script) c.script)
      (option_map (last kinds.Region) c.region) (map (last kinds.Variant) c.variants)) (normal_core c)
  unfolding normal_core
  led c =
      form_led c.extlangs c.language (option_map (last kinds.Script) c.script) (option_map (last kinds.Region) c.region)
      (map (last kinds.Variant) c.variants)
      (record {
        script = end_of_some (preferred_value R kinds.Script) (last kinds.Script) (at_last kinds.Script)
            c.script;
        region = end_of_some (preferred_value R kinds.Region) (last kinds.Region) (at_last kinds.Region)
            c.region;
      })
      (recursion_from_All Final (map (last kinds.Variant) c.variants)
      (All-map Final (last kinds.Variant) c.variants
      (λ k d h. ((at_last kinds.Variant).ends (get_or c.variants k d)).2)))

  -- steps lead an optional subtag to the end of its chain, in the core that `at` makes of it
  part_to_end : (k : Kind) (at : Option (List ℕ) → CoreParts)
      → ((s t : List ℕ) → next_value R k s ≡ Some t → CoreStep R (at (Some s)) (at (Some t))) → (o : Option (List ℕ))
      → Star (CoreStep R) (at o) (at (option_map (last k) o))
  part_to_end k at step None = done
  part_to_end k at step (Some s) = along R (next_value R k) (λ u. at (Some u)) step s (last k s) ((at_last k).ends s)

  -- steps lead each variant to the end of its chain, in the core that `at` makes of the variants
  variants_to_end : (at : List (List ℕ) → CoreParts) → ((before : List (List ℕ)) (v w : List ℕ) (after : List (List ℕ))
      → variant_value R v ≡ Some w → CoreStep R (at (before ++ v ∷ after)) (at (before ++ w ∷ after)))
      → (vs : List (List ℕ)) → Star (CoreStep R) (at vs) (at (map (last kinds.Variant) vs))
  variants_to_end at step [] = done
  variants_to_end at step (v ∷ vs) =
      star_trans (along R (variant_value R) (λ u. at (u ∷ vs)) (λ s t e. step [] s t vs e) v (last kinds.Variant v)
      ((at_last kinds.Variant).ends v))
      (variants_to_end (λ us. at (last kinds.Variant v ∷ us)) (λ before s t after e. step (last kinds.Variant v ∷ before) s t after e) vs)

  -- `normal_core` gives the normal form: each core step keeps it, steps reach it, and none leads from it
  pub cores_formed : IsFormOf (CoreStep R) normal_core
  cores_formed = record {
    kept = step_keeps;
    reached = λ c.
        let d : CoreParts = record c { script = option_map (last kinds.Script) c.script } in
        let e : CoreParts = record d { region = option_map (last kinds.Region) c.region } in
        star_trans
        (part_to_end kinds.Script (λ o. record c { script = o })
        (λ s t f. by_script R (record c { script = Some s }) s t refl f) c.script)
        (star_trans
        (part_to_end kinds.Region (λ o. record d { region = o })
        (λ s t f. by_region R (record d { region = Some s }) s t refl f) c.region)
        (star_trans
        (variants_to_end (λ vs. record e { variants = vs })
        (λ b v w a h. by_variant R (record e { variants = b ++ v ∷ a }) b v w a refl h) c.variants)
        (led c).reached));
    rests = λ c e. rests R (normal_core c) e (led c).rest;
  }

  -- under the conditions C1 to C6 each core has one core normal form
  pub one_normal_form : HasOneNormalForm R
  one_normal_form c =
      (normal_core c, record { normal = form_is_normal cores_formed c; alone = λ d n. sym (normal_is_form cores_formed c d n) })

  -- under the conditions C1 to C6 a core step keeps the core normal form
  pub steps_keep_normal_form : StepsKeepNormalForm R
  steps_keep_normal_form c d e s n =
      subst (λ x. IsCoreNormalForm R d x) (sym (cores_formed.kept c d s) ∙ normal_is_form cores_formed c e n)
      (form_is_normal cores_formed d)

  -- the cores that `at` makes of two subtags `s` and `t`, whose chains both end in `e`, have the same normal form
  pub one_end_one_form : (f : List ℕ → Option (List ℕ)) (at : List ℕ → CoreParts)
      → ((s t : List ℕ) → f s ≡ Some t → CoreStep R (at s) (at t)) → (s t e : List ℕ) → EndsIn f s e → EndsIn f t e
      → normal_core (at s) ≡ normal_core (at t)
  one_end_one_form f at step s t e h k =
      star_form cores_formed (along R f at step s e h) ∙ sym (star_form cores_formed (along R f at step t e k))

  -- If steps from a core that repeats no variant can reach a core that repeats one, the core normal form repeats one.

  -- a core that repeats no variant repeats none with a language value
  pub variant_languages_once : (c : CoreParts) → Distinct c.variants → VariantLanguagesOnce R c
  variant_languages_once c h = distinct_filter (has_variant_language R) c.variants h

  -- if a core repeats no variant with a language value, a core step leads to a core that repeats none
  pub variant_languages_once_kept : (c d : CoreParts) → CoreStep R c d → VariantLanguagesOnce R c → VariantLanguagesOnce R d
  variant_languages_once_kept c =
      let T : List ℕ → Bool = has_variant_language R in
      each_step R c (λ d. VariantLanguagesOnce R c → VariantLanguagesOnce R d) (record {
        extlang = λ x one h. h;
        language = λ v none has h. h;
        script = λ a v there has h. h;
        region = λ a v there has h. h;
        variant = λ before v w after there has h.
            let n = no_language R C v w has in
            subst Distinct (ap (filter T) there ∙ filter_without T before v after (stays v n.0)
            ∙ sym (filter_without T before w after (stays w n.1))) h;
        variant_language = λ before v m after none there has leftmost h.
            let e = ap (filter T) there ∙ filter-append T before (v ∷ after)
            ∙ ap (λ l. filter T before ++ l) (cond-true (T v) (v ∷ filter T after) (filter T after)
            (some_variant_language c.language v m has)) in
            subst Distinct (sym (filter-append T before after))
            (distinct_without (filter T before) v (filter T after) (subst Distinct e h));
      })

  -- a variant has a language value exactly if the end of its chain has one
  has_variant_language_last : (v : List ℕ) → has_variant_language R (last kinds.Variant v) ≡ has_variant_language R v
  has_variant_language_last v =
      end_keeps (at_last kinds.Variant) (λ s. has_variant_language R s ≡ has_variant_language R v)
      (λ s t h p. let n = no_language R C s t h in stays t n.1 ∙ sym (stays s n.0) ∙ p) v refl

  -- to pick the variants without a language value, and to lead each to the end of its chain, may be done in either
  -- order
  filter_last : (xs : List (List ℕ)) → filter (staying R) (map (last kinds.Variant) xs) ≡ map (last kinds.Variant) (filter (staying R) xs)
  filter_last [] = refl
  filter_last (x ∷ xs) =
      let g : List ℕ → List ℕ = last kinds.Variant in
      ap (λ b. cond (not b) (g x ∷ filter (staying R) (map g xs)) (filter (staying R) (map g xs))) (has_variant_language_last x)
      ∙ ap (λ l. cond (staying R x) (g x ∷ l) l) (filter_last xs)
      ∙ elim (staying R x) as (λ b. cond b (g x ∷ map g (filter (staying R) xs)) (map g (filter (staying R) xs))
      ≡ map g (cond b (x ∷ filter (staying R) xs) (filter (staying R) xs))) [ true ↦ refl | false ↦ refl ]

  -- a core that repeats no variant with a language value repeats no variant, if its normal form repeats none
  pub form_distinct : (c : CoreParts) → VariantLanguagesOnce R c → Distinct (normal_core c).variants → Distinct c.variants
  form_distinct c h k =
      merge (has_variant_language R) c.variants h
      (distinct_unmap (last kinds.Variant) (filter (staying R) c.variants)
      (subst Distinct ((led c).kept ∙ filter_last c.variants) (distinct_filter (staying R) (normal_core c).variants k)))
