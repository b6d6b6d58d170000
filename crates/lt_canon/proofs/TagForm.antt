-- The *end form* of a tag is the tag with its parts in their normal forms, and then its value as a whole tag, if it has
-- one. Each step leads to a tag of the same end form, steps from a proper tag reach its end form, and no step leads
-- from that: so steps are confluent (`has_end_forms`, `steps_confluent`). A *change* is what a step does to a tag: a
-- step is a change from a proper tag to a proper one, and each change of a proper tag is a step.
use Rattle.std.proofs.Common.{◌≡◌, ◌≢◌, ℕ, inl, inr, true, List, [], ◌∷◌, Option, Some, None, refl, sym, ap, ◌∙◌, subst, All, arith}
use Rattle.std.proofs.lemmas.Bool.{cases_Bool}
use Rattle.lt_tag.specs.Parts.{CoreParts, ExtensionParts, TagForm, LangTag, PrivateUse, Grandfathered}
use Rattle.lt_registry.specs.Parts.{EntryParts}
use Rattle.lt_registry.specs.Entries.{tag_of, whole_value}
use Rattle.lt_registry.specs.Same.{same_core}
use Rattle.lt_registry.specs.Validity.{Distinct, IsProper, RepeatsNoVariant}
use Rattle.lt_registry.specs.declared.entries.EntryName.TheVariants as names
use Rattle.lt_rewrite.specs.Rewriting.{Star, done, then, Rests}
use Rattle.lt_rewrite.specs.CoreSteps.{CoreStep, IsCoreNormalForm}
use Rattle.lt_rewrite.specs.Extensions.{ExtensionsStep}
use Rattle.lt_rewrite.specs.TagSteps.{CanBeReplacedWhole, TagChange, on_core, on_extensions, on_whole, TagStep, IsReached}
use Rattle.lt_rewrite.proofs.Stars.{star_trans}
use Rattle.lt_rewrite.proofs.NormalForms.{IsFormOf, star_map_while, star_keeps, form_is_normal, normal_is_form, rest_is_form}
use Rattle.lt_rewrite.proofs.Same.{same_core-Decides}
use Rattle.lt_rewrite.proofs.CoreForms.{normal_core, cores_formed as normal_cores}
use Rattle.lt_rewrite.proofs.PartLists.{empty_middle}
use Rattle.lt_rewrite.proofs.ExtensionForms.{normal_extension, normal_extensions, extensions_formed}
use Rattle.lt_rewrite.specs.Conditions.{HasEndingChain}
use Rattle.lt_check.specs.Conditions.{HasRestingWhole, HasAgreeingWhole, IsChecked}
use Rattle.lt_canon.proofs.EndForms.{IsEndForm, confluent, rest_unique}
use Rattle.lt_check.proofs.CheckedRegistry.{grandfathered_fit, valued_whole, whole_has, no_value, value_plain}
use Rattle.lt_tag.specs.Spelling.{spell_core}
use Rattle.lt_tag.specs.WellFormed.{IsNotGrandfathered}
use Rattle.lt_rewrite.specs.Laws.{IsProperValue, StepsKeepTagsProper}
use Rattle.lt_rewrite.proofs.ProperTags.{proper_spells_none, steps_keep_tags_proper}
use Rattle.lt_tag.specs.Values.{core_of, extensions_of, core_alone}
use Rattle.lt_canon.specs.Laws.{HasEndForms, StepsAreConfluent}
use Rattle.lt_canon.specs.Corollaries.{OneCanonicalTag}
use Rattle.lt_canon.specs.Settled.{IsReplacedWhole}

-- `end` of the value, or `t` if there is no value
abbrev pub or_value : TagForm → (TagForm → TagForm) → Option TagForm → TagForm
or_value t end None = t
or_value t end (Some u) = end u

-- no step leads from an empty list of extensions
pub extensions_step_from : (R : List EntryParts) (es fs : List ExtensionParts) → ExtensionsStep R es fs → es ≢ []
extensions_step_from R es fs s h = grind (arith, empty_middle)

-- no step leads to an empty list of extensions
pub extensions_step_to : (R : List EntryParts) (es fs : List ExtensionParts) → ExtensionsStep R es fs → fs ≢ []
extensions_step_to R es fs s h = grind (arith, empty_middle)

-- no core step, step on extensions or replacement by a value leads from the tag
abbrev pub NoChange : List EntryParts → TagForm → Type 0
NoChange R t = (u : TagForm) → TagChange R t u → ⊥

-- an empty list of extensions is in normal form: no step leads from it
pub none_rests : (R : List EntryParts) → Rests (ExtensionsStep R) []
none_rests R fs s = extensions_step_from R [] fs s refl

-- no change leads from a tag whose core, if it has one, and extensions are at rest, and that has no value to take
pub at_end : (R : List EntryParts) (t : TagForm) → ((c : CoreParts) → core_of t ≡ Some c → Rests (CoreStep R) c)
    → Rests (ExtensionsStep R) (extensions_of t) → (CanBeReplacedWhole t → whole_value R t ≡ None) → NoChange R t
at_end R t k m w u (on_core c d es ps from _ s) = k c (ap core_of from) d s
at_end R t k m w u (on_extensions c es fs ps from _ s) = m fs (subst (λ x. ExtensionsStep R x fs) (sym (ap extensions_of from)) s)
at_end R t k m w u (on_whole is_plain has) = let none = w is_plain in cc

-- no change leads from a langtag whose core `d` and extensions are at rest, and that has no value to take
pub lang_at_end : (R : List EntryParts) (d : CoreParts) (es : List ExtensionParts) (ps : List (List ℕ))
    → Rests (CoreStep R) d → Rests (ExtensionsStep R) es
    → (CanBeReplacedWhole (LangTag d es ps) → whole_value R (LangTag d es ps) ≡ None) → NoChange R (LangTag d es ps)
lang_at_end R d es ps k m w = at_end R (LangTag d es ps) (λ c e. let same : d ≡ c = cc in subst (Rests (CoreStep R)) same k) m w

-- in a checked registry the chain of values of each entry ends (C3)
pub ending_chains : (R : List EntryParts) → IsChecked R → All (HasEndingChain R) R
ending_chains R C = C.passes.core_conditions.chains

module _ (R : List EntryParts) (C : IsChecked R) where
  -- a proper core spells no grandfathered tag
  pub core_spells_none : (c : CoreParts) → IsProperValue R c → IsNotGrandfathered (spell_core c)
  core_spells_none c P = proper_spells_none R (grandfathered_fit R C) c P

  -- a step on the core or on the extensions of a proper tag leads to a proper tag
  pub steps_keep : StepsKeepTagsProper R
  steps_keep = steps_keep_tags_proper R C.registry C.passes.core_conditions (grandfathered_fit R C)

  -- each change of a proper tag is a step, since the tag that it leads to is proper
  pub step_of_change : (t u : TagForm) → TagChange R t u → IsProper R t → TagStep R t u
  step_of_change t u s P = record { from = P; to = led s; change = s }
    where
      led : TagChange R t u → IsProper R u
      led (on_core c d es ps from to s) = rw to (steps_keep.core c d es ps s (rw from at P))
      led (on_extensions c es fs ps from to s) = rw to (steps_keep.extensions c es fs ps s (rw from at P))
      led (on_whole _ has) = (value_plain R C t u has).valid.proper

  -- the core normal form of a core
  abbrev pub core_end : CoreParts → CoreParts
  core_end = normal_core R C.passes.core_conditions

  -- a core step leads to a core of the same core normal form, core steps reach that form, and none leads from it
  pub cores_formed : IsFormOf (CoreStep R) core_end
  cores_formed = normal_cores R C.passes.core_conditions

  -- an extension in its normal form
  abbrev pub extension_end : ExtensionParts → ExtensionParts
  extension_end = normal_extension R C.registry C.passes.core_conditions

  -- extensions in their normal form
  abbrev pub extensions_end : List ExtensionParts → List ExtensionParts
  extensions_end = normal_extensions R C.registry C.passes.core_conditions

  -- a step on extensions leads to extensions of the same normal form, steps reach that form, and none leads from it
  pub extensions_end_formed : IsFormOf (ExtensionsStep R) extensions_end
  extensions_end_formed = extensions_formed R C.registry C.passes.core_conditions

  -- a value with its core in core normal form; a value is a *core alone*: a langtag without extensions and private use
  abbrev pub value_end : TagForm → TagForm
  value_end (LangTag c es ps) = LangTag (core_end c) es ps
  value_end t = t

  -- the value of a whole record for the tag, its core in core normal form; the tag itself if it has no value
  abbrev pub whole_end : TagForm → TagForm
  whole_end t = or_value t value_end (whole_value R t)

  -- the end form of a langtag whose core `d` is in core normal form; only a core alone can be replaced whole
  abbrev pub lang_end : CoreParts → List ExtensionParts → List (List ℕ) → TagForm
  lang_end d [] [] = whole_end (core_alone d)
  lang_end d [] (p ∷ ps) = LangTag d [] (p ∷ ps)
  lang_end d (e ∷ es) ps = LangTag d (extensions_end (e ∷ es)) ps

  -- the end form of a tag
  abbrev pub tag_end : TagForm → TagForm
  tag_end (LangTag c es ps) = lang_end (core_end c) es ps
  tag_end (PrivateUse ps) = PrivateUse ps
  tag_end (Grandfathered n) = whole_end (Grandfathered n)

  -- the end form of a langtag with extensions has its core `d`, which is in core normal form, and its extensions in
  -- their normal form
  pub lang_end_some : (d : CoreParts) (es : List ExtensionParts) (ps : List (List ℕ)) → es ≢ []
      → lang_end d es ps ≡ LangTag d (extensions_end es) ps
  lang_end_some d es ps h = grind arith

  -- `core_end c` is the core normal form of `c`
  pub core_normal : (c : CoreParts) → IsCoreNormalForm R c (core_end c)
  core_normal c = form_is_normal cores_formed c

  -- where `c` is the value of a whole record and `d` its core normal form, `d` repeats no variant, and no record of `d`
  -- as a whole tag has a value (C10)
  resting : (t : TagForm) (c d : CoreParts) → whole_value R t ≡ Some (core_alone c) → IsCoreNormalForm R c d
      → Distinct d.variants × All (λ (f : EntryParts). f.name ≡ names.Whole (core_alone d) → tag_of f.value ≡ None) R
  resting t c d e n =
      let w = valued_whole R t (core_alone c) e in
      whole_has R t (core_alone c) (HasRestingWhole R) (C.passes.resting_whole) w t (core_alone c) w.named w.gives c d refl n

  -- where `c` is the value of a whole record, no value is found for its core normal form `d` as a whole tag
  pub value_rests : (t : TagForm) (c d : CoreParts) → whole_value R t ≡ Some (core_alone c) → IsCoreNormalForm R c d
      → whole_value R (core_alone d) ≡ None
  value_rests t c d e n = no_value R (core_alone d) (resting t c d e n).1

  -- where `c` is the value of a whole record, its end form is its core normal form
  value_end_is : (t : TagForm) (c : CoreParts) → whole_value R t ≡ Some (core_alone c) → tag_end (core_alone c) ≡ core_alone (core_end c)
  value_end_is t c e = ap (or_value (core_alone (core_end c)) value_end) (value_rests t c (core_end c) e (core_normal c))

  -- a core `c` alone that is replaced by `q` has the end form of `q`: its core normal form comes to that of `q` (C11)
  plain_kept : (c q : CoreParts) → whole_value R (core_alone c) ≡ Some (core_alone q)
      → whole_end (core_alone (core_end c)) ≡ core_alone (core_end q)
  plain_kept c q e = elim (cases_Bool (same_core (core_end c) c)) [
    | inl t ↦ ap (or_value (core_alone (core_end c)) value_end)
        (ap (λ d. whole_value R (core_alone d)) ((same_core-Decides (core_end c) c).0 t) ∙ e)
    | inr f ↦ let w = valued_whole R (core_alone c) (core_alone q) e in
        elim (whole_has R (core_alone c) (core_alone q) (HasAgreeingWhole R) C.passes.agreeing_whole w (core_alone c)
        (core_alone q) w.named w.gives c (core_end c) q (core_end q) refl refl (core_normal c)
        (λ h. let t : same_core (core_end c) c ≡ true = (same_core-Decides (core_end c) c).1 h in cc) (core_normal q)) [
          | inl s ↦ ap (λ d. whole_end (core_alone d)) s ∙ value_end_is (core_alone c) q e
          | inr k ↦ ap (or_value (core_alone (core_end c)) value_end) k.1 ∙ ap core_alone (normal_is_form cores_formed k.0 (core_end q) k.2)
        ]
  ]

  -- a tag that is replaced whole by `q` has the end form of `q`
  whole_kept_at : (t : TagForm) (q : CoreParts) → CanBeReplacedWhole t → whole_value R t ≡ Some (core_alone q)
      → tag_end t ≡ tag_end (core_alone q)
  whole_kept_at (Grandfathered n) q h e = ap (or_value (Grandfathered n) value_end) e ∙ sym (value_end_is (Grandfathered n) q e)
  whole_kept_at (LangTag c es ps) q h e =
      let k : whole_value R (core_alone c) ≡ Some (core_alone q) = rw (h.0, h.1) at e in
      rw (h.0, h.1) (plain_kept c q k ∙ sym (value_end_is (core_alone c) q k))
  whole_kept_at (PrivateUse ps) q h e = absurd h

  -- each change of a tag keeps its end form
  change_kept : (t u : TagForm) → TagChange R t u → tag_end t ≡ tag_end u
  change_kept t u (on_core c d es ps from to s) = ap tag_end from ∙ ap (λ x. lang_end x es ps) (cores_formed.kept c d s)
      ∙ sym (ap tag_end to)
  change_kept t u (on_extensions c es fs ps from to s) =
      ap tag_end from ∙ lang_end_some (core_end c) es ps (extensions_step_from R es fs s)
      ∙ ap (λ l. LangTag (core_end c) l ps) (extensions_end_formed.kept es fs s)
      ∙ sym (lang_end_some (core_end c) fs ps (extensions_step_to R es fs s)) ∙ sym (ap tag_end to)
  change_kept t u (on_whole is_plain has) = let v = value_plain R C t u has in
      whole_kept_at t v.core is_plain (has ∙ ap Some v.is) ∙ sym (ap tag_end v.is)

  -- each proper tag reaches its end form

  -- core steps from `c` to `d` lead from a proper langtag of `c` to that of `d`
  pub cores_reached : {c d : CoreParts} → Star (CoreStep R) c d → (es : List ExtensionParts) (ps : List (List ℕ))
      → IsProper R (LangTag c es ps) → IsReached R (LangTag c es ps) (LangTag d es ps)
  cores_reached r es ps P =
      star_map_while (λ x. IsProper R (LangTag x es ps)) (λ x. LangTag x es ps) (λ x y s p. steps_keep.core x y es ps s p)
      (λ x y s p q. step_of_change (LangTag x es ps) (LangTag y es ps) (on_core x y es ps refl refl s) p) r P

  -- core steps from `c` to `d` lead from a proper langtag of `c` to a proper one of `d`
  pub cores_proper : {c d : CoreParts} → Star (CoreStep R) c d → (es : List ExtensionParts) (ps : List (List ℕ))
      → IsProper R (LangTag c es ps) → IsProper R (LangTag d es ps)
  cores_proper r es ps P = star_keeps (λ x. IsProper R (LangTag x es ps)) (λ x y s p. steps_keep.core x y es ps s p) r P

  -- steps on its core, from `c` to `d`, and then on its extensions, from `es` to `fs`, lead from a proper langtag to
  -- the one of these parts
  pub parts_reached : {c d : CoreParts} {es fs : List ExtensionParts} → Star (CoreStep R) c d
      → Star (ExtensionsStep R) es fs → (ps : List (List ℕ)) → IsProper R (LangTag c es ps)
      → IsReached R (LangTag c es ps) (LangTag d fs ps)
  parts_reached {c} {d} {es} {fs} r s ps P =
      star_trans (cores_reached r es ps P) (star_map_while (λ x. IsProper R (LangTag d x ps)) (λ x. LangTag d x ps)
      (λ x y k p. steps_keep.extensions d x y ps k p)
      (λ x y k p q. step_of_change (LangTag d x ps) (LangTag d y ps) (on_extensions d x y ps refl refl k) p) s (cores_proper r es ps P))

  -- what follows if `r` is `s` with its value taken, the core in core normal form, or `s` itself if it has no value
  pub record Replaced (s r : TagForm) : Type 0 where
    pub reached : IsProper R s → IsReached R s r
    pub at_rest : ((CanBeReplacedWhole s → whole_value R s ≡ None) → NoChange R s) → NoChange R r
    pub distinct : RepeatsNoVariant s → RepeatsNoVariant r

  -- if `r` is `s` with its value taken, steps from `s` reach `r`, no step leads from `r` if only the one to its value
  -- leads from `s`, and `r` repeats no variant if `s` repeats none
  pub replaced : (s r : TagForm) → IsReplacedWhole R s r → Replaced s r
  replaced s r (inl v) =
      let u = v.settled in
      let k : whole_value R s ≡ Some (core_alone u.core) = v.has ∙ ap Some u.from in
      rw u.to (record {
        reached = λ P. let first : TagStep R s (core_alone u.core) = step_of_change s (core_alone u.core)
            (on_whole v.plain k) P in (then) first (cores_reached u.normal.reached [] [] first.to);
        at_rest = λ _. lang_at_end R u.form [] [] u.normal.at_rest (none_rests R) (λ _. value_rests s u.core u.form k u.normal);
        distinct = λ _. ((resting s u.core u.form k u.normal).0, tt);
      })
  replaced s r (inr y) = rw y.same (record { reached = λ P. done; at_rest = λ h. h y.none; distinct = λ d. d })

  -- a tag with its parts in their normal forms
  abbrev pub parts_end : TagForm → TagForm
  parts_end (LangTag c es ps) = LangTag (core_end c) (extensions_end es) ps
  parts_end t = t

  -- a proper tag reaches the tag with its parts in their normal forms
  parts_end_reached : (t : TagForm) → IsProper R t → IsReached R t (parts_end t)
  parts_end_reached (LangTag c es ps) P = parts_reached (cores_formed.reached c) (extensions_end_formed.reached es) ps P
  parts_end_reached _ P = done

  -- no change but the replacement by its value, if it has one, leads from a tag with its parts in their normal forms
  parts_end_rests : (t : TagForm) → (CanBeReplacedWhole (parts_end t) → whole_value R (parts_end t) ≡ None) → NoChange R (parts_end t)
  parts_end_rests (LangTag c es ps) w = lang_at_end R (core_end c) (extensions_end es) ps (cores_formed.rests c)
      (extensions_end_formed.rests es) w
  parts_end_rests t w = at_end R t (λ c e. cc) (none_rests R) w

  -- a proper tag reaches `r`, which is the tag with its parts in their normal forms and then its value taken
  pub settled_reached : (t r : TagForm) → IsReplacedWhole R (parts_end t) r → IsProper R t → IsReached R t r
  settled_reached t r w P =
      let to = parts_end_reached t P in
      star_trans to ((replaced (parts_end t) r w).reached (star_keeps (IsProper R) (λ a b s _. s.to) to P))

  -- no step leads from `r`, which is the tag with its parts in their normal forms and then its value taken
  pub settled_rests : (t r : TagForm) → IsReplacedWhole R (parts_end t) r → Rests (TagStep R) r
  settled_rests t r w u s = (replaced (parts_end t) r w).at_rest (parts_end_rests t) u s.change

  -- if `o` is the value of a tag `t` that can be replaced whole, or None, then what `t` is replaced by is the value
  -- with its core in core normal form, or `t` itself
  whole_replaced : (t : TagForm) → CanBeReplacedWhole t → (o : Option TagForm) → whole_value R t ≡ o
      → IsReplacedWhole R t (or_value t value_end o)
  whole_replaced t h None e = inr (record { none = λ _. e; same = refl })
  whole_replaced t h (Some u) e =
      let v = value_plain R C t u e in
      inl (record {
        value = u;
        plain = h;
        has = e;
        settled = record {
          core = v.core;
          form = core_end v.core;
          from = v.is;
          to = ap value_end v.is;
          normal = core_normal v.core;
        };
      })

  -- the end form is the tag with its parts in their normal forms, and then its value taken
  pub end_replaced : (t : TagForm) → IsReplacedWhole R (parts_end t) (tag_end t)
  end_replaced (LangTag c [] []) = rw (rest_is_form extensions_end_formed [] (none_rests R))
      (whole_replaced (core_alone (core_end c)) (refl, refl) (whole_value R (core_alone (core_end c))) refl)
  end_replaced (LangTag c [] (p ∷ ps)) = rw (rest_is_form extensions_end_formed [] (none_rests R))
      (inr (record { none = λ h. let none = h.1 in cc; same = refl }))
  end_replaced (LangTag c (e ∷ es) ps) =
      inr (record {
        none = λ h. absurd (star_keeps (λ (l : List ExtensionParts). l ≢ []) (λ a b s _. extensions_step_to R a b s)
            (extensions_end_formed.reached (e ∷ es)) (λ k. cc) h.0);
        same = refl;
      })
  end_replaced (PrivateUse ps) = inr (record { none = λ h. absurd h; same = refl })
  end_replaced (Grandfathered n) = whole_replaced (Grandfathered n) tt (whole_value R (Grandfathered n)) refl

  -- a proper tag reaches its end form
  pub tag_reached : (t : TagForm) → IsProper R t → IsReached R t (tag_end t)
  tag_reached t P = settled_reached t (tag_end t) (end_replaced t) P

  -- `tag_end` gives end forms: each step leads to a tag of the same end form, and steps reach it from each proper tag
  pub end_form : IsEndForm (IsProper R) (TagStep R) tag_end
  end_form = record { to = λ a b s. s.to; kept = λ a b s. change_kept a b s.change; reached = tag_reached }

-- the end forms of tags, by a checked registry, as the law states them
pub has_end_forms : (R : List EntryParts) → IsChecked R → HasEndForms R
has_end_forms R C = record {
  end = tag_end R C;
  kept = λ t u s. change_kept R C t u s.change;
  reached = tag_reached R C;
  at_rest = λ t. settled_rests R C t (tag_end R C t) (end_replaced R C t);
}

-- two tags that steps reach from one proper tag reach a common third
pub steps_confluent : (R : List EntryParts) → IsChecked R → StepsAreConfluent R
steps_confluent R C = confluent (end_form R C)

-- equivalent canonical tags are equal
pub one_canonical_tag : (R : List EntryParts) → IsChecked R → OneCanonicalTag R
one_canonical_tag R C a b p q e = rest_unique (end_form R C) a b p.valid.proper q.valid.proper e p.at_rest q.at_rest
