-- Core steps come to an end, since each makes a number lower, and lead from proper cores to proper cores, which spell
-- no grandfathered tag (the law `steps_keep_proper`). A core is proper if its subtags are registered, and its extlang,
-- if it has one, belongs to its language.
use Rattle.std.proofs.Common.{rules, ◌≡◌, ℕ, zero, suc, Bool, true, false, List, [], ◌∷◌, ◌++◌, Option, Some, None}
use Rattle.std.proofs.Common.{refl, sym, ap, ◌∙◌, subst, length, arith, ◌≤◌, ◌+◌, ◌≢◌, not, ◌<◌, All, ◌-◌, ◌&&◌, ◌||◌}
use Rattle.std.proofs.Common.{bytes_eq}
use Rattle.std.specs.Prelude.{option_to_list}
use Rattle.std.specs.List.{AllByRecursion, list_all, sum_by}
use Rattle.std.specs.Option.{option_map_or}
use Rattle.std.proofs.lemmas.Bool.{and_parts, and_from, not-true, both_ways, or_right}
use Rattle.std.proofs.lemmas.List.Sums.{sum_by-cons, sum_by-append}
use Rattle.std.proofs.lemmas.Slice.Eq.{bytes_eq-Decides}
use Rattle.lt_subtag.specs.Shapes.{is_extlang, is_script, is_region, is_variant}
use Rattle.lt_tag.specs.Lists.{pieces}
use Rattle.lt_tag.specs.Grandfathered.{grandfathered_texts, grandfathered_list, IsGrandfathered}
use Rattle.lt_tag.specs.WellFormed.{IsNotGrandfathered}
use Rattle.lt_tag.specs.Parts.{CoreParts}
use Rattle.lt_tag.specs.Spelling.{spell_core, IsCore}
use Rattle.lt_tag.proofs.TagLemmas.{AllByRecursion-weaker, table_length, list_all-at}
use Rattle.lt_registry.specs.Parts.{EntryParts}
use Rattle.lt_registry.specs.Entries.{replacement, is_registered, IsRegistry}
use Rattle.lt_registry.specs.Validity.{Distinct, ExtlangsFit, IsProperCore}
use Rattle.lt_registry.specs.declared.entries.Kind.{Kind}
use Rattle.lt_registry.specs.declared.entries.Kind.TheVariants as kinds
use Rattle.lt_rewrite.specs.CoreSteps.{CoreStep}
use Rattle.lt_rewrite.specs.Conditions.{MeetsCoreConditions, next_value, HasEndingChain, HasFittingGrandfathered, second_entry}
use Rattle.lt_rewrite.specs.Laws.{StepsKeepProper, ProperCoresSpellNone}
use Rattle.lt_rewrite.proofs.PartLists.{facts_of_tests, tests_of_facts, all_without, all_replaced}
use Rattle.lt_rewrite.proofs.Entries.{chains_end, variant_language_is, entry_has, variant_value_fits, language_value_fits}
use Rattle.lt_rewrite.proofs.ChainWalks.{Takes, takes_unique, takes_within}
use Rattle.lt_rewrite.proofs.Forms.{registered_entry, value_form, value_registered, replacement_form}
use Rattle.lt_rewrite.proofs.Forms.{replacement_registered, language_value_form, variant_value_form}
use Rattle.lt_rewrite.proofs.CoreSteps.{core_step_no_longer, each_step}

-- Core steps come to an end: each makes a number lower.

-- how many values follow a subtag on its chain by a function, counted up to a number
left : (List ℕ → Option (List ℕ)) → ℕ → List ℕ → ℕ
left f zero s = 0
left f (suc n) s = option_map_or (λ t. suc (left f n t)) (f s) 0

-- if exactly `m` values follow `s`, and `m` is at most `n`, `left` gives `m`
left_takes : (f : List ℕ → Option (List ℕ)) (n m : ℕ) (s : List ℕ) → Takes f m s → m ≤ n → left f n s ≡ m
unfolding left
left_takes f zero zero s a h = refl
left_takes f (suc n) zero s a h = rw (a, left)
left_takes f zero (suc m) s a h = absurd (omega arith)
left_takes f (suc n) (suc m) s a h = let rest : left f n a.0 ≡ m = left_takes f n m a.0 a.2 (omega arith) in rw (a.1, left) (ap suc rest)

module _ (R : List EntryParts) where
  -- how many values follow a subtag of a kind, if its chain ends
  abbrev after : Kind → List ℕ → ℕ
  after k s = left (next_value R k) (length R) s

  -- a number above that of the values that follow any subtag
  abbrev spare : ℕ
  spare = length R + 1

  -- how many values follow an optional subtag of a kind; 0 if there is no subtag
  abbrev of_part : Kind → Option (List ℕ) → ℕ
  of_part k o = option_map_or (after k) o 0

  -- what a variant adds to the weight: the number of values that follow it, and `spare`, since a VariantLanguage step
  -- drops it for a language that values of its own may follow
  abbrev of_variant : List ℕ → ℕ
  of_variant v = after kinds.Variant v + spare

  -- the number that each core step makes lower: how many values follow the subtags, and `spare` for each extlang and
  -- each variant
  pub weight : CoreParts → ℕ
  weight c =
      sum_by (λ _. spare) c.extlangs
      + (after kinds.Language c.language
      + (of_part kinds.Script c.script + (of_part kinds.Region c.region + sum_by of_variant c.variants)))

  -- if all chains end, fewer than `spare` values follow a subtag
  after_most : All (HasEndingChain R) R → (k : Kind) (s : List ℕ) → after k s < spare
  after_most C k s =
      let t = takes_within R k s (chains_end R C k s) in
      omega (arith, t.1, left_takes (next_value R k) (length R) t.0 s t.2 t.1)

  -- if all chains end, one value more follows `s` than its value `t`
  after_next : All (HasEndingChain R) R → (k : Kind) (s t : List ℕ) → next_value R k s ≡ Some t → after k s ≡ suc (after k t)
  after_next C k s t e =
      let a = takes_within R k t (chains_end R C k t) in
      let b = takes_within R k s (chains_end R C k s) in
      let same : suc a.0 ≡ b.0 = takes_unique (next_value R k) (suc a.0) b.0 s (t, e, a.2) b.2 in
      omega (arith, same, left_takes (next_value R k) (length R) a.0 t a.2 a.1, left_takes (next_value R k) (length R) b.0 s b.2 b.1)

  -- the sum over a list of variants is that over those before the variant `v`, what `v` adds, and that over the others
  variants_with : (before : List (List ℕ)) (v : List ℕ) (vs : List (List ℕ)) → sum_by of_variant (before ++ v ∷ vs)
      ≡ sum_by of_variant before + (of_variant v + sum_by of_variant vs)
  variants_with before v vs = sum_by-append of_variant before (v ∷ vs)
      ∙ ap (λ n. sum_by of_variant before + n) (sum_by-cons of_variant v vs)

  -- if all chains end, a core step makes the weight lower
  pub weight_falls : All (HasEndingChain R) R → (c d : CoreParts) → CoreStep R c d → weight d < weight c
  unfolding weight
  weight_falls C c = each_step R c (λ d. weight d < weight c) (record {
    extlang = λ x one.
        omega (arith, ap (sum_by (λ _. spare)) one, sum_by-cons (λ _. spare) x [], after_most C kinds.Language (replacement R x));
    language = λ v none has. omega (arith, after_next C kinds.Language c.language v has);
    script = λ a v there has. omega (arith, ap (of_part kinds.Script) there, after_next C kinds.Script a v has);
    region = λ a v there has. omega (arith, ap (of_part kinds.Region) there, after_next C kinds.Region a v has);
    variant = λ before v w vs there has.
        omega (
          arith,
          ap (sum_by of_variant) there,
          variants_with before v vs,
          variants_with before w vs,
          after_next C kinds.Variant v w has,
        );
    variant_language = λ before v m vs none there has leftmost.
        omega (
          arith,
          ap (sum_by of_variant) there,
          variants_with before v vs,
          sum_by-append of_variant before vs,
          after_most C kinds.Language m,
        );
  })

-- A core step leads from a proper core to a proper core, and no proper core spells a grandfathered tag.

-- a core step keeps the form of a core (RFC 5646, 2.1)
pub step_shaped : (R : List EntryParts) → IsRegistry R → (c d : CoreParts) → IsCore c → CoreStep R c d → IsCore d
step_shaped R G c d S = each_step R c IsCore (record {
  extlang = λ x one.
      let shape : is_extlang x ≡ true = (and_parts (is_extlang x) true (ap (list_all is_extlang) (sym one) ∙ S.extlangs)).0 in
      record {
        language = replacement_form R G x shape;
        extlangs = refl;
        up_to_three = omega arith;
        after_short = λ n. absurd (omega (arith, n));
        script = S.script;
        region = S.region;
        variants = S.variants;
      };
  language = λ v none has. let n = ap length none in search (rules, arith, value_form R G kinds.Language c.language v has);
  script = λ a v there has. search (rules, value_form R G kinds.Script a v has);
  region = λ a v there has. search (rules, value_form R G kinds.Region a v has);
  variant = λ before v w after there has.
      let facts = facts_of_tests is_variant (before ++ v ∷ after) (ap (list_all is_variant) (sym there) ∙ S.variants) in
      search (
        rules,
        tests_of_facts is_variant (before ++ w ∷ after)
            (all_replaced (λ x. is_variant x ≡ true) before v w after facts (variant_value_form R G v w has)),
      );
  variant_language = λ before v m after none there has leftmost.
      let t = (variant_language_is R c.language v m has).1 in
      let facts = facts_of_tests is_variant (before ++ v ∷ after) (ap (list_all is_variant) (sym there) ∙ S.variants) in
      record {
        language = language_value_form R G v m t;
        extlangs = S.extlangs;
        up_to_three = S.up_to_three;
        after_short = λ n. absurd (omega (arith, ap length none, n));
        script = S.script;
        region = S.region;
        variants = tests_of_facts is_variant (before ++ after)
            (all_without (λ x. is_variant x ≡ true) before v after facts);
      };
}) d

-- the subtag is registered as a variant
abbrev RegisteredVariant : List EntryParts → List ℕ → Type 0
RegisteredVariant R v = is_registered R kinds.Variant v ≡ true

-- under the conditions C1 to C6 a core step leads from a proper core to a proper core
pub step_proper : (R : List EntryParts) → MeetsCoreConditions R → (c d : CoreParts) → IsProperCore R c → CoreStep R c d → IsProperCore R d
step_proper R C c d P = each_step R c (IsProperCore R) (record {
  extlang = λ x one.
      let fit : ExtlangsFit R c.language (x ∷ []) = subst (ExtlangsFit R c.language) one P.extlangs in
      record { language = replacement_registered R C x fit.0; extlangs = tt; script = P.script; region = P.region; variants = P.variants };
  language = λ v none has. let fit = subst (ExtlangsFit R v) (sym none) tt in
      search (rules, value_registered R C kinds.Language c.language v refl has);
  script = λ a v there has. search (rules, value_registered R C kinds.Script a v refl has);
  region = λ a v there has. search (rules, value_registered R C kinds.Region a v refl has);
  variant = λ before v w after there has.
      search (
        rules,
        all_replaced (RegisteredVariant R) before v w after
            (subst (AllByRecursion (RegisteredVariant R)) there P.variants) (variant_value_fits R C v w has).0,
      );
  variant_language = λ before v m after none there has leftmost.
      let t = (variant_language_is R c.language v m has).1 in
      let all = subst (AllByRecursion (RegisteredVariant R)) there P.variants in
      record {
        language = language_value_fits R C v m t;
        extlangs = subst (ExtlangsFit R m) (sym none) tt;
        script = P.script;
        region = P.region;
        variants = all_without (RegisteredVariant R) before v after all;
      };
}) d

-- under the conditions C1 to C6 the law `StepsKeepProper` holds, by which a core step also keeps the form of the core
pub steps_keep_proper : (R : List EntryParts) → IsRegistry R → MeetsCoreConditions R → StepsKeepProper R
steps_keep_proper R G C c d P s =
    let shaped = step_shaped R G c d P.value.shaped s in
    let proper = step_proper R C c d P.proper s in
    let n = (core_step_no_longer R c d s).variants in
    search (rules, arith)

-- whether no subtag occurs twice
unfoldable pub distinct_test : List (List ℕ) → Bool
distinct_test [] = true
distinct_test (x ∷ xs) = list_all (λ y. not (bytes_eq y x)) xs && distinct_test xs

-- a list that passes `distinct_test` repeats no subtag
pub distinct_from_test : (xs : List (List ℕ)) → distinct_test xs ≡ true → Distinct xs
unfolding distinct_test
distinct_from_test [] h = tt
distinct_from_test (x ∷ xs) h =
    let p = and_parts (list_all (λ y. not (bytes_eq y x)) xs) (distinct_test xs) h in (
      AllByRecursion-weaker (λ y. not (bytes_eq y x) ≡ true) (λ y. y ≢ x)
          (λ y f e. both_ways (bytes_eq y x) (not-true (bytes_eq y x) f) ((bytes_eq-Decides y x).1 e)) xs
          (facts_of_tests (λ y. not (bytes_eq y x)) xs p.0),
      distinct_from_test xs p.1,
    )

-- the end `after` of a list without repeats has none
distinct_rest : (before after : List (List ℕ)) → Distinct (before ++ after) → Distinct after
distinct_rest [] after h = h
distinct_rest (x ∷ xs) after h = distinct_rest xs after h.1

-- whether a list of subtags is one subtag, and then a script, a region, both or neither
three_at_most : List (List ℕ) → Bool
three_at_most (l ∷ []) = true
three_at_most (l ∷ s ∷ []) = is_script s || is_region s
three_at_most (l ∷ s ∷ r ∷ []) = is_script s && is_region r
three_at_most s = false

-- a test that the subtags of each grandfathered tag pass: none occurs twice, and there is more than a language, perhaps
-- a script and perhaps a region
of_grandfathered : List (List ℕ) → Bool
of_grandfathered list = distinct_test list && not (three_at_most list)

-- each of the 26 grandfathered tags passes the test `of_grandfathered` (RFC 5646, 2.1)
tests_hold : list_all (λ (t : List ℕ). of_grandfathered (pieces t)) grandfathered_texts ≡ true
unfolding of_grandfathered distinct_test three_at_most grandfathered_texts is_script is_region
tests_hold = refl

-- none of the subtags of a grandfathered tag occurs twice, and there is more than a language, perhaps a script and
-- perhaps a region
grandfathered_is : (list : List (List ℕ)) (number : ℕ) → IsGrandfathered list number → Distinct list × (three_at_most list ≡ false)
unfolding of_grandfathered grandfathered_list
grandfathered_is list number g =
    let test = ap of_grandfathered g.same
    ∙ list_all-at (λ (t : List ℕ). of_grandfathered (pieces t)) grandfathered_texts (number - 1) tests_hold (omega
    (arith, table_length, g.first, g.last)) in
    let p = and_parts (distinct_test list) (not (three_at_most list)) test in
    (distinct_from_test list p.0, not-true (three_at_most list) p.1)

-- a core that spells a grandfathered tag repeats no variant
pub spelled_distinct : (c : CoreParts) (number : ℕ) → IsGrandfathered (spell_core c) number → Distinct c.variants
spelled_distinct c number g =
    let d : Distinct (spell_core c) = (grandfathered_is (spell_core c) number g).0 in
    distinct_rest (option_to_list c.region) c.variants
    (distinct_rest (option_to_list c.script) (option_to_list c.region ++ c.variants)
    (distinct_rest c.extlangs (option_to_list c.script ++ (option_to_list c.region ++ c.variants)) d.1))

-- a language with an optional script and an optional region passes `three_at_most`
bare_test : (l : List ℕ) (sc re : Option (List ℕ)) → option_map_or is_script sc true ≡ true
    → option_map_or is_region re true ≡ true → three_at_most (l ∷ (option_to_list sc ++ (option_to_list re ++ [])))
    ≡ true
unfolding three_at_most
bare_test l None None s r = refl
bare_test l (Some a) None s r = rw s refl
bare_test l None (Some b) s r = or_right (is_script b) (is_region b) r
bare_test l (Some a) (Some b) s r = and_from (is_script a) (is_region b) s r

-- if a core whose extlangs `xs` and variants `vs` are registered spells a grandfathered tag, its second subtag is an
-- extlang or a variant, and has an entry
second_registered : (R : List EntryParts) (c : CoreParts) (number : ℕ) (xs vs : List (List ℕ)) → IsCore c
    → c.extlangs ≡ xs → c.variants ≡ vs → ExtlangsFit R c.language xs
    → AllByRecursion (λ v. is_registered R kinds.Variant v ≡ true) vs → IsGrandfathered (spell_core c) number
    → (e : EntryParts) × (second_entry R xs vs ≡ Some e)
second_registered R c number [] [] S ex ev fx fv g =
    let spelled : spell_core c ≡ c.language ∷ (option_to_list c.script ++ (option_to_list c.region ++ [])) =
    ap (λ xs. c.language ∷ (xs ++ (option_to_list c.script ++ (option_to_list c.region ++ c.variants)))) ex
    ∙ ap (λ vs. c.language ∷ (option_to_list c.script ++ (option_to_list c.region ++ vs))) ev in
    let yes : three_at_most (spell_core c) ≡ true = ap three_at_most spelled ∙ bare_test c.language c.script c.region S.script S.region in
    let no : three_at_most (spell_core c) ≡ false = (grandfathered_is (spell_core c) number g).1 in
    cc
second_registered R c number (x ∷ []) vs S ex ev fx fv g = registered_entry R kinds.Extlang x fx.0
second_registered R c number (x ∷ y ∷ more) vs S ex ev fx fv g = absurd fx
second_registered R c number [] (v ∷ vs) S ex ev fx fv g = registered_entry R kinds.Variant v fv.0

-- what each record has, the entry of the second subtag has
second_has : (R : List EntryParts) (P : EntryParts → Type 0) → All P R → (xs vs : List (List ℕ)) (e : EntryParts)
    → second_entry R xs vs ≡ Some e → P e
second_has R P h [] [] e q = cc
second_has R P h (x ∷ xs) vs e q = (entry_has R kinds.Extlang x P h e q).0
second_has R P h [] (v ∷ vs) e q = (entry_has R kinds.Variant v P h e q).0

-- under the condition C8 a proper core spells no grandfathered tag
pub proper_not_grandfathered : (R : List EntryParts) → All (HasFittingGrandfathered R) R → (c : CoreParts) → IsCore c
    → IsProperCore R c → IsNotGrandfathered (spell_core c)
proper_not_grandfathered R H c S P number g =
    let en : (e : EntryParts) × (second_entry R c.extlangs c.variants ≡ Some e) = second_registered R c number
    c.extlangs c.variants S refl refl P.extlangs P.variants g in
    (second_has R (HasFittingGrandfathered R) H c.extlangs c.variants en.0 en.1).regular c number S g P (spelled_distinct c number g) en.1

-- under the condition C8 the law `ProperCoresSpellNone` holds
pub proper_spells_none : (R : List EntryParts) → All (HasFittingGrandfathered R) R → ProperCoresSpellNone R
proper_spells_none R H c P = proper_not_grandfathered R H c P.value.shaped P.proper
