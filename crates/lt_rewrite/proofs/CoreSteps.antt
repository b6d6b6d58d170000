-- Core steps by the part that they replace, so that a proof about core steps has one case for each kind of step
-- (`EachStep`); what steps reach one after another; and when no step leads on (`AtRest`). The lists of variants are cut
-- at the variant of the step.
use Rattle.std.proofs.Common.{rules, ◌≡◌, ℕ, suc, Bool, true, false, eqb, List, [], ◌∷◌, ◌++◌, Option, Some, None, refl}
use Rattle.std.proofs.Common.{sym, ap, ◌∙◌, subst, length, take, drop, is_none, arith, ◌≤◌, map, append_assoc, cond}
use Rattle.std.proofs.Common.{◌≢◌, not, filter, get_or, set, Bor, ◌⊎◌, inl, inr}
use Rattle.std.specs.Prelude.{slice_get, if◌then◌else◌, option_to_list}
use Rattle.std.specs.List.{AllByRecursion, list_all}
use Rattle.std.specs.Option.{option_copied}
use Rattle.std.proofs.lemmas.Bool.{true≢false, eqb-true, cond-false, cases_Bool}
use Rattle.std.proofs.lemmas.List.{set_split, set_at, take_at, drop_at, length-append, nil_from_length}
use Rattle.std.proofs.lemmas.Option.{same_Some, slice_get_within, slice_get-get_or, get_or_from_slice_get, none-some}
use Rattle.std.proofs.lemmas.List.Elements.{filter-append, All-filter, All-from_recursion, recursion_from_All}
use Rattle.lt_tag.specs.Parts.{CoreParts}
use Rattle.lt_tag.specs.Spelling.{spell_core}
use Rattle.lt_tag.proofs.TagLemmas.{AllByRecursion-weaker}
use Rattle.lt_registry.specs.Parts.{EntryParts}
use Rattle.lt_registry.specs.Entries.{preferred_value, variant_value, replacement}
use Rattle.lt_registry.specs.Validity.{Distinct}
use Rattle.lt_registry.specs.declared.entries.Kind.TheVariants as kinds
use Rattle.lt_rewrite.specs.CoreSteps.{language_beside, Spot, at_extlang, at_language, at_script, at_region, at_variant}
use Rattle.lt_rewrite.specs.CoreSteps.{at_variant_language, subtag_at, value_at, replaced, CoreStep, EndsIn}
use Rattle.lt_rewrite.specs.Rewriting.{Star, done, then as onward}
use Rattle.lt_rewrite.specs.Conditions.{next_value}
use Rattle.lt_rewrite.proofs.PartLists.{cut_at, cut_within, round, facts_of_tests, tests_of_facts, all_middle}
use Rattle.lt_rewrite.proofs.PartLists.{all_without, all_unmapped, others_same}
use Rattle.lt_rewrite.proofs.Chains.{by_next, chase_keeps}
use Rattle.lt_rewrite.proofs.Stars.{star_trans}
use Rattle.lt_rewrite.proofs.Entries.{some_if}

-- What each kind of core step needs, and to what it leads.

-- a list of length 0 is empty
pub none_of : (xs : List (List ℕ)) → eqb (length xs) 0 ≡ true → xs ≡ []
none_of xs h = nil_from_length xs (eqb-true (length xs) 0 h)

-- a list of length 1 has only its first element, `x`
pub sole : (xs : List (List ℕ)) (x : List ℕ) → x ≡ get_or xs 0 x → length xs ≡ 1 → xs ≡ x ∷ []
sole (y ∷ []) x e h = ap (λ z. z ∷ []) (sym e)
sole s x e h = absurd (omega arith)

-- an extlang at which a step may be taken is the only one
pub one_extlang : (c : CoreParts) (x : List ℕ) → subtag_at c at_extlang ≡ Some x → c.extlangs ≡ x ∷ []
one_extlang c x t =
    let a = some_if (eqb (length c.extlangs) 1) (slice_get c.extlangs 0) x t in
    sole c.extlangs x (sym (get_or_from_slice_get c.extlangs 0 x x a.1)) (eqb-true (length c.extlangs) 1 a.0)

-- if `o` is given only to a core without extlangs, and what is given is `x`, then there are no extlangs, and `o` is `x`
pub alone : (c : CoreParts) (o : Option (List ℕ)) (x : List ℕ) → (if eqb (length c.extlangs) 0 then o else None)
    ≡ Some x → (c.extlangs ≡ []) × (o ≡ Some x)
alone c o x t = let a = some_if (eqb (length c.extlangs) 0) o x t in (none_of c.extlangs a.0, a.1)

-- a list is what is before its element `v` at the index `i`, then `v`, and then what is after it
pub got_at : (vs : List (List ℕ)) (i : ℕ) (v : List ℕ) → slice_get vs i ≡ Some v → vs ≡ take i vs ++ v ∷ drop (suc i) vs
got_at vs i v t = round vs i v (slice_get_within vs i v t) (sym (get_or_from_slice_get vs i v v t))

-- in a list that is cut at `v`, the index of `v` is the length of what is before it
pub get_at : (before : List (List ℕ)) (v : List ℕ) (after vs : List (List ℕ)) → vs ≡ before ++ v ∷ after
    → slice_get vs (length before) ≡ Some v
get_at before v after vs e =
    slice_get-get_or vs (length before) v (cut_within before v after vs e) ∙ ap Some (cut_at before v after vs v e)

-- if the test holds that no element has a value by `f`, it is a fact of each element
pub none_before : (f : List ℕ → Option (List ℕ)) (xs : List (List ℕ)) → list_all (λ u. is_none (f u)) xs ≡ true
    → AllByRecursion (λ u. f u ≡ None) xs
none_before f xs h =
    AllByRecursion-weaker (λ u. is_none (f u) ≡ true) (λ u. f u ≡ None)
    (λ u e. by_next (f u) (λ n. n) (λ a s. absurd (true≢false (sym e ∙ ap is_none s)))) xs
    (facts_of_tests (λ u. is_none (f u)) xs h)

-- if no element has a value by `f`, the test of that holds
none_test : (f : List ℕ → Option (List ℕ)) (xs : List (List ℕ)) → AllByRecursion (λ u. f u ≡ None) xs
    → list_all (λ u. is_none (f u)) xs ≡ true
none_test f xs h =
    tests_of_facts (λ u. is_none (f u)) xs (AllByRecursion-weaker (λ u. f u ≡ None) (λ u. is_none (f u) ≡ true) (λ u e. ap is_none e) xs h)

-- if `x` is the only extlang, a step may be taken at it
pub extlang_there : (c : CoreParts) (x : List ℕ) → c.extlangs ≡ x ∷ [] → subtag_at c at_extlang ≡ Some x
extlang_there c x one = ap (λ xs. if eqb (length xs) 1 then slice_get xs 0 else None) one

-- if `o`, which is `x`, is given only to a core without extlangs, and there are none, then `x` is given
pub there_alone : (c : CoreParts) (o : Option (List ℕ)) (x : List ℕ) → c.extlangs ≡ [] → o ≡ Some x
    → (if eqb (length c.extlangs) 0 then o else None) ≡ Some x
there_alone c o x none e = ap (λ xs. if eqb (length xs) 0 then o else None) none ∙ e

-- the variant `v` at `i` has the value `m` for a VariantLanguage step, if `language_beside` gives `m` for it and the
-- core's language, and None for the variants before it
pub has_leftmost : (R : List EntryParts) (c : CoreParts) (i : ℕ) (v m : List ℕ)
    → language_beside R c.language v ≡ Some m
    → AllByRecursion (λ u. language_beside R c.language u ≡ None) (take i c.variants)
    → value_at R c (at_variant_language i) v ≡ Some m
has_leftmost R c i v m has leftmost =
    let f : List ℕ → Option (List ℕ) = language_beside R c.language in
    ap (λ b. if b then f v else None) (none_test f (take i c.variants) leftmost) ∙ has

-- for each kind of step by itself: `P` holds of each core to which a step of this kind leads from the core `c`
pub record EachStep (R : List EntryParts) (c : CoreParts) (P : CoreParts → Type 0) : Type 0 where
  pub extlang : (x : List ℕ) → c.extlangs ≡ x ∷ [] → P (record c { language = replacement R x; extlangs = [] })
  pub language : (v : List ℕ) → c.extlangs ≡ [] → preferred_value R kinds.Language c.language ≡ Some v → P (record c { language = v })
  pub script : (s v : List ℕ) → c.script ≡ Some s → preferred_value R kinds.Script s ≡ Some v → P (record c { script = Some v })
  pub region : (s v : List ℕ) → c.region ≡ Some s → preferred_value R kinds.Region s ≡ Some v → P (record c { region = Some v })
  pub variant : (before : List (List ℕ)) (v w : List ℕ) (after : List (List ℕ)) → c.variants ≡ before ++ v ∷ after
      → variant_value R v ≡ Some w → P (record c { variants = before ++ w ∷ after })
  pub variant_language : (before : List (List ℕ)) (v m : List ℕ) (after : List (List ℕ)) → c.extlangs ≡ []
      → c.variants ≡ before ++ v ∷ after → language_beside R c.language v ≡ Some m
      → AllByRecursion (λ u. language_beside R c.language u ≡ None) before
      → P (record c { language = m; variants = before ++ after })

module _ (R : List EntryParts) (c : CoreParts) where
  -- if `P` holds for each kind of step, as `EachStep` says, it holds of the core `d` to which any core step leads
  pub each_step : (P : CoreParts → Type 0) → EachStep R c P → (d : CoreParts) → CoreStep R c d → P d
  each_step P E d s = subst P (sym s.result) (at s.spot s.subtag s.there s.value s.has)
    where
      at : (spot : Spot) (x : List ℕ) → subtag_at c spot ≡ Some x → (v : List ℕ) → value_at R c spot x ≡ Some v → P (replaced c spot v)
      at at_extlang x t v h =
          subst (λ u. P (record c { language = u; extlangs = [] })) (same_Some (replacement R x) v h) (E.extlang x (one_extlang c x t))
      at at_language x t v h =
          let a = alone c (Some c.language) x t in
          E.language v a.0 (ap (preferred_value R kinds.Language) (same_Some c.language x a.1) ∙ h)
      at at_script x t v h = E.script x v t h
      at at_region x t v h = E.region x v t h
      at (at_variant i) x t v h =
          subst (λ vs. P (record c { variants = vs })) (sym (set_split c.variants i v (slice_get_within c.variants i x t)))
          (E.variant (take i c.variants) x v (drop (suc i) c.variants) (got_at c.variants i x t) h)
      at (at_variant_language i) x t v h =
          let a = alone c (slice_get c.variants i) x t in
          let f : List ℕ → Option (List ℕ) = language_beside R c.language in
          let l = some_if (list_all (λ u. is_none (f u)) (take i c.variants)) (f x) v h in
          E.variant_language (take i c.variants) x v (drop (suc i) c.variants) a.0 (got_at c.variants i x a.1) l.1
          (none_before f (take i c.variants) l.0)

  -- there is a core step at a spot, if a step may be taken at the subtag `s` there, and `s` has the value `v`
  pub step : (spot : Spot) (s v : List ℕ) → subtag_at c spot ≡ Some s → value_at R c spot s ≡ Some v → CoreStep R c (replaced c spot v)
  step spot s v there has = record { spot = spot; subtag = s; there = there; value = v; has = has; result = refl }

  -- there is an Extlang step, if `x` is the only extlang
  pub by_extlang : (x : List ℕ) → c.extlangs ≡ x ∷ [] → CoreStep R c (record c { language = replacement R x; extlangs = [] })
  by_extlang x one = step at_extlang x (replacement R x) (extlang_there c x one) refl

  -- there is a Language step to `v`, if that is the language's value, and there are no extlangs
  pub by_language : (v : List ℕ) → c.extlangs ≡ [] → preferred_value R kinds.Language c.language ≡ Some v
      → CoreStep R c (record c { language = v })
  by_language v none has = step at_language c.language v (there_alone c (Some c.language) c.language none refl) has

  -- there is a Script step from the script `s` to its value `v`
  pub by_script : (s v : List ℕ) → c.script ≡ Some s → preferred_value R kinds.Script s ≡ Some v
      → CoreStep R c (record c { script = Some v })
  by_script s v there has = step at_script s v there has

  -- there is a Region step from the region `s` to its value `v`
  pub by_region : (s v : List ℕ) → c.region ≡ Some s → preferred_value R kinds.Region s ≡ Some v
      → CoreStep R c (record c { region = Some v })
  by_region s v there has = step at_region s v there has

  -- there is a Variant step from the variant `v` to its value `w`, which is a variant
  pub by_variant : (before : List (List ℕ)) (v w : List ℕ) (after : List (List ℕ)) → c.variants ≡ before ++ v ∷ after
      → variant_value R v ≡ Some w → CoreStep R c (record c { variants = before ++ w ∷ after })
  by_variant before v w after there has =
      subst (λ vs. CoreStep R c (record c { variants = vs })) (ap (λ vs. set vs (length before) w) there
      ∙ set_at before v after w (length before) refl)
      (step (at_variant (length before)) v w (get_at before v after c.variants there) has)

  -- there is a VariantLanguage step that drops `v` and puts the language `m`, if there are no extlangs, and `v` is the
  -- leftmost variant with such a step
  pub by_variant_language : (before : List (List ℕ)) (v m : List ℕ) (after : List (List ℕ)) → c.extlangs ≡ []
      → c.variants ≡ before ++ v ∷ after → language_beside R c.language v ≡ Some m
      → AllByRecursion (λ u. language_beside R c.language u ≡ None) before
      → CoreStep R c (record c { language = m; variants = before ++ after })
  by_variant_language before v m after none there has leftmost =
      let n : ℕ = length before in
      let front : take n c.variants ≡ before = ap (take n) there ∙ take_at before (v ∷ after) n refl in
      let rest : drop (suc n) c.variants ≡ after = ap (drop (suc n)) (there ∙ sym (append_assoc before (v ∷ []) after))
      ∙ drop_at (before ++ v ∷ []) after (suc n) (omega (arith, length-append before (v ∷ []))) in
      subst (λ vs. CoreStep R c (record c { language = m; variants = vs })) (λ i. front i ++ rest i)
      (step (at_variant_language n) v m
      (there_alone c (slice_get c.variants n) v none (get_at before v after c.variants there))
      (has_leftmost R c n v m has (subst (AllByRecursion (λ u. language_beside R c.language u ≡ None)) (sym front)
      leftmost)))

-- A core step leads to a core with no more subtags.

-- each part of `d` has at most as many subtags as that part of `c`
pub record IsNoLonger (d c : CoreParts) : Type 0 where
  pub extlangs : length d.extlangs ≤ length c.extlangs
  pub script : length (option_to_list d.script) ≤ length (option_to_list c.script)
  pub region : length (option_to_list d.region) ≤ length (option_to_list c.region)
  pub variants : length d.variants ≤ length c.variants

-- a core step gives no part more subtags
pub core_step_no_longer : (R : List EntryParts) (c d : CoreParts) → CoreStep R c d → IsNoLonger d c
core_step_no_longer R c = each_step R c (λ d. IsNoLonger d c) (record {
  extlang = λ x one. search (rules, arith);
  language = λ v none has. search (rules, arith);
  script = λ a v there has. let n = ap (λ o. length (option_to_list o)) there in search (rules, arith);
  region = λ a v there has. let n = ap (λ o. length (option_to_list o)) there in search (rules, arith);
  variant = λ before v w after there has.
      let n : length (before ++ w ∷ after) ≤ length c.variants = omega (
        arith,
        length-append before (w ∷ after),
        length-append before (v ∷ after),
        ap length there,
      ) in
      search (rules, arith);
  variant_language = λ before v m after none there has leftmost.
      let n : length (before ++ after) ≤ length c.variants = omega (
        arith,
        length-append before after,
        length-append before (v ∷ after),
        ap length there,
      ) in
      search (rules, arith);
})

-- a core `d`, no part of which has more subtags than that of `c`, has no more subtags in all
pub spelled_no_longer : (c d : CoreParts) → IsNoLonger d c → length (spell_core d) ≤ length (spell_core c)
spelled_no_longer c d h = simp length-append (omega arith)

-- What core steps reach, one after another.

-- core steps lead from the core that `at` makes of a subtag `s` to the one that it makes of the end `e` of the chain of
-- `s`
pub along : (R : List EntryParts) (f : List ℕ → Option (List ℕ)) (at : List ℕ → CoreParts)
    → ((s t : List ℕ) → f s ≡ Some t → CoreStep R (at s) (at t)) → (s e : List ℕ) → EndsIn f s e
    → Star (CoreStep R) (at s) (at e)
along R f at step s e h =
    subst (λ u. Star (CoreStep R) (at s) (at u)) h.1
    (chase_keeps f (λ u. Star (CoreStep R) (at s) (at u)) (λ u t g r. star_trans r (onward (step u t g) done)) h.0 s
    done)

-- core steps lead from the core that `at` makes of an optional subtag, which is `s`, to the core `d`, which it makes of
-- the end `e` of the chain of `s`
part_reached : (R : List EntryParts) (f : List ℕ → Option (List ℕ)) (at : Option (List ℕ) → CoreParts)
    → ((s t : List ℕ) → f s ≡ Some t → CoreStep R (at (Some s)) (at (Some t)))
    → (part : Option (List ℕ)) (d : CoreParts) (o : Option (Bor (List ℕ))) (s : Bor (List ℕ)) (e : List ℕ)
    → option_copied o ≡ part → o ≡ Some s → EndsIn f s.now e → d ≡ at (Some e) → Star (CoreStep R) (at part) d
part_reached R f at step part d o s e own some ends new =
    subst (λ d. Star (CoreStep R) (at part) d) (sym new)
    (subst (λ p. Star (CoreStep R) (at p) (at (Some e))) (ap option_copied (sym some) ∙ own)
    (along R f (λ u. at (Some u)) step s.now e ends))

-- core steps lead from a core to the one with the end `e` of the chain of its script `s`
pub script_reached : (R : List EntryParts) (c d : CoreParts) (o : Option (Bor (List ℕ))) (s : Bor (List ℕ)) (e : List ℕ)
    → option_copied o ≡ c.script → o ≡ Some s → EndsIn (next_value R kinds.Script) s.now e
    → d ≡ record c { script = Some e } → Star (CoreStep R) c d
script_reached R c d = part_reached R (next_value R kinds.Script) (λ o. record c { script = o })
    (λ u t f. by_script R (record c { script = Some u }) u t refl f) c.script d

-- core steps lead from a core to the one with the end `e` of the chain of its region `s`
pub region_reached : (R : List EntryParts) (c d : CoreParts) (o : Option (Bor (List ℕ))) (s : Bor (List ℕ)) (e : List ℕ)
    → option_copied o ≡ c.region → o ≡ Some s → EndsIn (next_value R kinds.Region) s.now e
    → d ≡ record c { region = Some e } → Star (CoreStep R) c d
region_reached R c d = part_reached R (next_value R kinds.Region) (λ o. record c { region = o })
    (λ u t f. by_region R (record c { region = Some u }) u t refl f) c.region d

-- core steps lead from a core without extlangs to the one with the end `e` of the chain of its language `l`
pub language_reached : (R : List EntryParts) (c d : CoreParts) (l e : List ℕ) → c.extlangs ≡ [] → l ≡ c.language
    → EndsIn (next_value R kinds.Language) l e → d ≡ record c { language = e } → Star (CoreStep R) c d
language_reached R c d l e none own ends new =
    subst (λ d. Star (CoreStep R) c d) (sym new)
    (along R (next_value R kinds.Language) (λ u. record c { language = u })
    (λ u t f. by_language R (record c { language = u }) t none f) c.language e
    (subst (λ s. EndsIn (next_value R kinds.Language) s e) own ends))

-- the core `d` is at rest: part by part, no subtag of it is left to replace
pub record AtRest (R : List EntryParts) (d : CoreParts) : Type 0 where
  pub extlang : (x : List ℕ) → d.extlangs ≡ x ∷ [] → ⊥
  pub language : d.extlangs ≡ [] → preferred_value R kinds.Language d.language ≡ None
  pub script : (s : List ℕ) → d.script ≡ Some s → preferred_value R kinds.Script s ≡ None
  pub region : (s : List ℕ) → d.region ≡ Some s → preferred_value R kinds.Region s ≡ None
  pub variant : AllByRecursion (λ v. variant_value R v ≡ None) d.variants
  pub variant_language : d.extlangs ≡ [] → AllByRecursion (λ v. language_beside R d.language v ≡ None) d.variants

-- no core step leads from a core `d` that is at rest
pub rests : (R : List EntryParts) (d e : CoreParts) → AtRest R d → CoreStep R d e → ⊥
rests R d e A = each_step R d (λ _. ⊥) (record {
  extlang = A.extlang;
  language = λ v none has. none-some v (sym (A.language none) ∙ has);
  script = λ s v there has. none-some v (sym (A.script s there) ∙ has);
  region = λ s v there has. none-some v (sym (A.region s there) ∙ has);
  variant = λ before v w after there has.
      let P : List ℕ → Type 0 = λ u. variant_value R u ≡ None in
      none-some w (sym (all_middle P before v after (subst (AllByRecursion P) there A.variant)) ∙ has);
  variant_language = λ before v m after none there has leftmost.
      let P : List ℕ → Type 0 = λ u. language_beside R d.language u ≡ None in
      none-some m (sym (all_middle P before v after (subst (AllByRecursion P) there (A.variant_language none))) ∙ has);
}) e

-- Lists of which a test picks some elements, and the leftmost element with a value.

-- a list without repeats stays so without one of its elements
pub distinct_without : {A : Type 0} (before : List A) (v : A) (after : List A) → Distinct (before ++ v ∷ after) → Distinct (before ++ after)
distinct_without [] v after h = h.1
distinct_without (u ∷ us) v after h = (all_without (λ y. y ≢ u) us v after h.0, distinct_without us v after h.1)

-- without an element `v` that fails the test `T` a list has the same elements that pass
pub filter_without : (T : List ℕ → Bool) (before : List (List ℕ)) (v : List ℕ) (after : List (List ℕ)) → T v ≡ false
    → filter T (before ++ v ∷ after) ≡ filter T (before ++ after)
filter_without T before v after e =
    filter-append T before (v ∷ after)
    ∙ ap (λ l. filter T before ++ l) (cond-false (T v) (v ∷ filter T after) (filter T after) e)
    ∙ sym (filter-append T before after)

-- in a list without repeats the elements that pass a test have no repeats
pub distinct_filter : {A : Type 0} (T : A → Bool) (xs : List A) → Distinct xs → Distinct (filter T xs)
distinct_filter T [] h = tt
distinct_filter T (x ∷ xs) h =
    let apart = recursion_from_All (λ y. y ≢ x) (filter T xs) (All-filter T (λ y. y ≢ x) xs (All-from_recursion (λ y. y ≢ x) xs h.0)) in
    elim (T x) as (λ b. Distinct (cond b (x ∷ filter T xs) (filter T xs)))
    [ true ↦ (apart, distinct_filter T xs h.1) | false ↦ distinct_filter T xs h.1 ]

-- what holds of the elements that pass the test `T`, and of each element that fails it, holds of all
all_unfilter : {A : Type 0} (P : A → Type 0) (T : A → Bool) (xs : List A) → ((x : A) → T x ≡ false → P x)
    → AllByRecursion P (filter T xs) → AllByRecursion P xs
all_unfilter P T [] f h = tt
all_unfilter P T (x ∷ xs) f h = elim (cases_Bool (T x)) [
  | inl e ↦ let k = rw e at h in (k.0, all_unfilter P T xs f k.1)
  | inr e ↦ (f x e, all_unfilter P T xs f (rw e at h))
]

-- if neither the elements that pass a test nor those that fail it have repeats, the list has none
pub merge : {A : Type 0} (T : A → Bool) (xs : List A) → Distinct (filter T xs) → Distinct (filter (λ y. not (T y)) xs) → Distinct xs
merge T [] h k = tt
merge T (x ∷ xs) h k = elim (cases_Bool (T x)) [
  | inl e ↦
      let p = rw e at h in
      (all_unfilter (λ y. y ≢ x) T xs (λ y f g. let a : T y ≡ T x = ap T g in cc) p.0, merge T xs p.1 (rw e at k))
  | inr e ↦
      let p = rw e at k in (
        all_unfilter (λ y. y ≢ x) (λ y. not (T y)) xs (λ y f g. let a : not (T y) ≡ true = ap not (ap T g ∙ e) in cc)
            p.0,
        merge T xs (rw e at h) p.1,
      )
]

-- if what `g` makes of the elements has no repeats, the list has none
pub distinct_unmap : {A B : Type 0} (g : A → B) (xs : List A) → Distinct (map g xs) → Distinct xs
distinct_unmap g [] h = tt
distinct_unmap g (x ∷ xs) h = (
  AllByRecursion-weaker (λ y. g y ≢ g x) (λ y. y ≢ x) (λ y f e. f (ap g e)) xs
      (all_unmapped (λ z. z ≢ g x) g xs h.0),
  distinct_unmap g xs h.1,
)

-- the leftmost element of `vs` that has a value by `f` (`variant`), its value, and what is before and after it
pub record Picked (f : List ℕ → Option (List ℕ)) (vs : List (List ℕ)) : Type 0 where
  pub before : List (List ℕ)
  pub variant : List ℕ
  pub after : List (List ℕ)
  pub value : List ℕ
  pub there : vs ≡ before ++ variant ∷ after
  pub has : f variant ≡ Some value
  pub leftmost : AllByRecursion (λ u. f u ≡ None) before

-- the leftmost element of a list that has a value by a function (`Picked`), or the fact that none has one
abbrev pub Pick : (List ℕ → Option (List ℕ)) → List (List ℕ) → Type 0
Pick f vs = Picked f vs ⊎ AllByRecursion (λ u. f u ≡ None) vs

-- in each list the leftmost element with a value by `f` is found, or none has a value
pub pick : (f : List ℕ → Option (List ℕ)) (vs : List (List ℕ)) → Pick f vs
pick f [] = inr tt
pick f (v ∷ vs) =
    by_next (f v) (λ e. later e (pick f vs))
    (λ m e. inl (record { before = []; variant = v; after = vs; value = m; there = refl; has = e; leftmost = tt }))
  where
    later : f v ≡ None → Pick f vs → Pick f (v ∷ vs)
    later e (inl p) = inl (record {
      before = v ∷ p.before;
      variant = p.variant;
      after = p.after;
      value = p.value;
      there = ap (λ us. v ∷ us) p.there;
      has = p.has;
      leftmost = (e, p.leftmost);
    })
    later e (inr none) = inr (e, none)

-- if one list is cut twice at its leftmost element with a value by `f`, both cuts have the same value, and the same
-- list without the element
pub one_leftmost : (f : List ℕ → Option (List ℕ)) (b c : List (List ℕ)) (v w m n : List ℕ) (x y : List (List ℕ))
    → b ++ v ∷ x ≡ c ++ w ∷ y → f v ≡ Some m → f w ≡ Some n → AllByRecursion (λ u. f u ≡ None) b
    → AllByRecursion (λ u. f u ≡ None) c → (m ≡ n) × (b ++ x ≡ c ++ y)
one_leftmost f [] [] v w m n x y e g h p q = let k : v ≡ w = cc in let l = ap f k in (cc, cc)
one_leftmost f [] (d ∷ c) v w m n x y e g h p q = let k : v ≡ d = cc in let l = ap f k in let z = q.0 in cc
one_leftmost f (a ∷ b) [] v w m n x y e g h p q = let k : a ≡ w = cc in let l = ap f k in let z = p.0 in cc
one_leftmost f (a ∷ b) (d ∷ c) v w m n x y e g h p q =
    let r = one_leftmost f b c v w m n x y (others_same a d (b ++ v ∷ x) (c ++ w ∷ y) e) g h p.1 q.1 in
    let k : a ≡ d = cc in
    (r.0, λ i. k i ∷ r.1 i)
