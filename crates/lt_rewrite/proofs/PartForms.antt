-- The normal forms of the parts of a `u` extension (`u_form`) and, under the conditions C1 to C6
-- (`MeetsCoreConditions`), of a `t` extension (`t_form`). Steps on the parts keep their normal form and their shapes,
-- and make them no longer.
use Rattle.std.proofs.Common.{◌≡◌, ℕ, ◌≤◌, ◌<◌, true, false, cond, List, [], ◌∷◌, ◌++◌, refl, sym, ap, ◌∙◌, subst, ap₂}
use Rattle.std.proofs.Common.{bytes_eq, length, arith, Option, Some, None, IfSome, ◌≢◌, ◌⊎◌, inl, inr}
use Rattle.std.specs.Prelude.{codes, flat_map, map, option_map}
use Rattle.std.specs.List.{list_all, AllByRecursion}
use Rattle.std.specs.Cmp.{IsTotalOrder}
use Rattle.std.specs.Cmp.Lexicographic.{nat_list_cmp_total}
use Rattle.std.proofs.lemmas.Cmp.{on_total}
use Rattle.std.proofs.lemmas.Slice.Eq.{bytes_eq-Decides}
use Rattle.std.proofs.lemmas.List.{length-append}
use Rattle.lt_tag.specs.Parts.{KeywordParts, UForm, CoreParts, FieldParts, TForm}
use Rattle.lt_tag.specs.Extensions.{is_long, spell_keyword, spell_u, IsKeyword, IsU, spell_field, spell_t, IsField, IsT}
use Rattle.lt_rewrite.specs.Rewriting.{Star, done, then, IsNormalForm}
use Rattle.lt_rewrite.specs.Extensions.{text_cmp, key_cmp, DropsTrue, UnicodeStep, on_attributes, on_keywords, on_types}
use Rattle.lt_rewrite.specs.Extensions.{separator_cmp, TransformStep, on_source, on_fields}
use Rattle.lt_rewrite.specs.ExtensionSettling.{without_true, untrue}
use Rattle.lt_rewrite.proofs.NormalForms.{IsFormOf, formed_by, pair_settles, star_map, form_is_normal}
use Rattle.lt_rewrite.proofs.Sorting.{sorted, list_step_keeps, sorting_is_form}
use Rattle.lt_rewrite.proofs.PartSorting.{PartStep, on_part, on_order, parts_are_formed}
use Rattle.lt_rewrite.proofs.PartLists.{all_step, list_all_step, all_middle, all_replaced, step_some, some_long}
use Rattle.lt_rewrite.proofs.PartLists.{empty_middle, spelled_step, spelled_replaced, length_step, if_some_is}
use Rattle.lt_rewrite.proofs.PartLists.{is_if_some}
use Rattle.lt_tag.specs.Spelling.{IsCore}
use Rattle.lt_registry.specs.Parts.{EntryParts}
use Rattle.lt_rewrite.specs.CoreSteps.{CoreStep, IsCoreNormalForm}
use Rattle.lt_rewrite.proofs.CoreSteps.{core_step_no_longer, spelled_no_longer}
use Rattle.lt_rewrite.proofs.CoreForms.{normal_core, cores_formed}
use Rattle.lt_tag.specs.Splitting.{spell_source}
use Rattle.std.proofs.lemmas.Bool.{cases_Bool}
use Rattle.lt_rewrite.specs.Orderings.{ListStep}
use Rattle.lt_rewrite.specs.Conditions.{MeetsCoreConditions}

-- The normal form of the parts of a `u` extension.

-- the order of subtags is total
pub text_total : IsTotalOrder text_cmp
text_total = nat_list_cmp_total

-- the order of keywords is total
pub key_total : IsTotalOrder key_cmp
key_total = on_total (λ (k : KeywordParts). k.key) text_total

-- the keyword `l` is `k` without its only type, `true`
record LosesTrue (k l : KeywordParts) : Type 0 where
  sole : k.types ≡ codes "true" ∷ []
  result : l ≡ record { key = k.key; types = [] }

-- the keyword of a key and its types
abbrev pub with_types : List ℕ → List (List ℕ) → KeywordParts
with_types key types = record { key = key; types = types }

-- the types of a keyword are exactly `true`, or `without_true` leaves them as they are
sole_or_kept : (types : List (List ℕ)) → (types ≡ codes "true" ∷ []) ⊎ (without_true types ≡ types)
sole_or_kept (t ∷ []) =
    elim (cases_Bool (bytes_eq t (codes "true"))) [
      | inl e ↦ inl (ap (λ x. x ∷ []) ((bytes_eq-Decides t (codes "true")).0 e))
      | inr e ↦ inr (ap (λ b. cond b [] (t ∷ [])) e)
    ]
sole_or_kept s = inr refl

-- `untrue` gives the normal form of a keyword by the step that drops its only type, `true`
untrue_is_form : IsFormOf LosesTrue untrue
untrue_is_form = record {
  kept = λ k l s. ap (λ ts. with_types k.key (without_true ts)) s.sole ∙ sym (ap untrue s.result);
  reached = λ k. elim (sole_or_kept k.types) [
    | inl e ↦ then (record { sole = e; result = ap (λ ts. with_types k.key (without_true ts)) e }) done
    | inr e ↦ subst (λ ts. Star LosesTrue k (with_types k.key ts)) (sym e) done
  ];
  rests = λ k l s.
      let none : without_true k.types ≡ [] = elim (sole_or_kept k.types)
      [ inl e ↦ ap without_true e | inr e ↦ ap without_true (sym e ∙ s.sole) ] in
      let sole : without_true k.types ≡ codes "true" ∷ [] = s.sole in
      cc;
}

-- the normal form of keywords: each without its only type, if that is `true`, in the order of their keys, and only the
-- first of one key
abbrev pub keywords_form : List KeywordParts → List KeywordParts
keywords_form ks = sorted true key_cmp (map untrue ks)

-- `keywords_form` gives the normal form by steps on one keyword and ordering steps
keywords_formed : IsFormOf (PartStep LosesTrue true key_cmp) keywords_form
keywords_formed = parts_are_formed LosesTrue untrue untrue_is_form true key_cmp key_total (λ _ _. refl)

-- the normal form of the parts of a `u` extension
abbrev pub u_form : UForm → UForm
u_form p = record { attributes = sorted true text_cmp p.attributes; keywords = keywords_form p.keywords }

-- the parts of a `u` extension: its attributes and its keywords
abbrev pub with_parts : List (List ℕ) → List KeywordParts → UForm
with_parts attributes keywords = record { attributes = attributes; keywords = keywords }

-- a step on the keywords is one on the parts of a `u` extension
keyword_step : (as' : List (List ℕ)) (ks ls : List KeywordParts) → PartStep LosesTrue true key_cmp ks ls
    → UnicodeStep (with_parts as' ks) (with_parts as' ls)
keyword_step as' ks ls (on_part before k l after e f s) =
    on_types refl before k after (record { there = e; sole = s.sole; result = f ∙ ap (λ x. before ++ x ∷ after) s.result })
keyword_step as' ks ls (on_order s) = on_keywords refl s

-- a DropTrue step on the keywords is a step on the keyword `k`, a part of their list
as_part : (before : List KeywordParts) (k : KeywordParts) (after ks ls : List KeywordParts)
    → DropsTrue before k after ks ls → PartStep LosesTrue true key_cmp ks ls
as_part before k after ks ls s = on_part before k (record k { types = [] }) after s.there s.result (record { sole = s.sole; result = refl })

-- a step on the parts of a `u` extension keeps their normal form
u_kept : (p q : UForm) → UnicodeStep p q → u_form p ≡ u_form q
u_kept p q (on_attributes s h) =
    ap₂ with_parts (list_step_keeps true text_cmp text_total p.attributes q.attributes s) (ap keywords_form (sym h))
u_kept p q (on_keywords h s) =
    ap₂ with_parts (ap (sorted true text_cmp) (sym h)) (keywords_formed.kept p.keywords q.keywords (on_order s))
u_kept p q (on_types h before k after s) =
    ap₂ with_parts (ap (sorted true text_cmp) (sym h))
    (keywords_formed.kept p.keywords q.keywords (as_part before k after p.keywords q.keywords s))

-- a step on the parts of a `u` extension is one on the attributes or on the keywords
u_parts : (as' : List (List ℕ)) (ks : List KeywordParts) (q : UForm) → UnicodeStep (with_parts as' ks) q
    → ((bs : List (List ℕ)) × ListStep true text_cmp as' bs)
    ⊎ ((ls : List KeywordParts) × PartStep LosesTrue true key_cmp ks ls)
u_parts as' ks q (on_attributes s h) = inl (q.attributes, s)
u_parts as' ks q (on_keywords h s) = inr (q.keywords, on_order s)
u_parts as' ks q (on_types h before k after s) = inr (q.keywords, as_part before k after ks q.keywords s)

-- `u_form` gives the normal form: each step keeps it, steps reach it, and none leads from it
pub u_formed : IsFormOf UnicodeStep u_form
u_formed =
    formed_by u_kept (λ p. pair_settles with_parts (λ as' bs ks s. on_attributes s refl) keyword_step u_parts
    (form_is_normal (sorting_is_form true text_cmp text_total) p.attributes)
    (form_is_normal keywords_formed p.keywords))

-- if each part spells at least one subtag, a list that is not empty does
some_spelled : {A : Type 0} (spell : A → List (List ℕ)) → ((a : A) → 0 < length (spell a)) → (xs : List A) → xs ≢ []
    → 0 < length (flat_map spell xs)
some_spelled spell h [] n = absurd (n refl)
some_spelled spell h (x ∷ xs) n = omega (arith, h x, length-append (spell x) (flat_map spell xs))

-- a step on the parts of a `u` extension keeps their shapes
pub u_shaped : (p q : UForm) → UnicodeStep p q → IsU p → IsU q
u_shaped p q (on_attributes s h) k =
    record {
      attributes = list_all_step is_long p.attributes q.attributes s k.attributes;
      keywords = subst (AllByRecursion IsKeyword) (sym h) k.keywords;
      some = omega (
        arith,
        some_long q.attributes (step_some p.attributes q.attributes s),
        length-append q.attributes (flat_map spell_keyword q.keywords),
      );
    }
u_shaped p q (on_keywords h s) k =
    record {
      attributes = subst (λ l. list_all is_long l ≡ true) (sym h) k.attributes;
      keywords = all_step IsKeyword p.keywords q.keywords s k.keywords;
      some = omega (
        arith,
        some_spelled spell_keyword (λ k. omega arith) q.keywords (step_some p.keywords q.keywords s),
        length-append q.attributes (flat_map spell_keyword q.keywords),
      );
    }
u_shaped p q (on_types h before l after s) k =
    let all = subst (AllByRecursion IsKeyword) s.there k.keywords in
    let bare : IsKeyword (record l { types = [] }) = record { key = (all_middle IsKeyword before l after all).key; types = refl } in
    record {
      attributes = subst (λ l. list_all is_long l ≡ true) (sym h) k.attributes;
      keywords = subst (AllByRecursion IsKeyword) (sym s.result) (all_replaced IsKeyword before l (record l { types = [] }) after all bare);
      some = omega (
        arith,
        some_spelled spell_keyword (λ k. omega arith) q.keywords
            (λ e. empty_middle before (record l { types = [] }) after (sym s.result ∙ e)),
        length-append q.attributes (flat_map spell_keyword q.keywords),
      );
    }

-- a step on the parts of a `u` extension leads to parts with no more subtags
pub u_step_length : (p q : UForm) → UnicodeStep p q → length (spell_u q) ≤ length (spell_u p)
u_step_length p q (on_attributes s h) =
    omega (arith, length-append {A = List ℕ}, length_step p.attributes q.attributes s, ap (λ ks. length (flat_map spell_keyword ks)) h)
u_step_length p q (on_keywords h s) =
    omega (arith, length-append {A = List ℕ}, ap length h, spelled_step spell_keyword p.keywords q.keywords s)
u_step_length p q (on_types h before k after s) =
    omega (
      arith,
      length-append {A = List ℕ},
      ap length h,
      ap (λ ks. length (flat_map spell_keyword ks)) s.there,
      ap (λ ks. length (flat_map spell_keyword ks)) s.result,
      spelled_replaced spell_keyword before k
          (record k { types = [] }) after (omega arith),
    )

-- The normal form of the parts of a `t` extension.

-- the order of fields is total
pub separator_total : IsTotalOrder separator_cmp
separator_total = on_total (λ (f : FieldParts). f.separator) text_total

-- the parts of a `t` extension: its source and its fields
abbrev pub with_source : Option CoreParts → List FieldParts → TForm
with_source source fields = record { source = source; fields = fields }

-- a core step leads from the one optional source to the other: there is a source before it and after it
abbrev pub OnSome : List EntryParts → Option CoreParts → Option CoreParts → Type 0
OnSome R o r = (c d : CoreParts) × (o ≡ Some c) × (r ≡ Some d) × CoreStep R c d

-- no source is its own normal form
pub none_settles : (R : List EntryParts) → IsNormalForm (OnSome R) None None
none_settles R = record { reached = done; at_rest = λ r s. cc (s.2) }

-- the core normal form of a source is its normal form by steps on an optional source
pub source_settles : (R : List EntryParts) {c d : CoreParts} → IsCoreNormalForm R c d → IsNormalForm (OnSome R) (Some c) (Some d)
source_settles R {d = d} n = record {
  reached = star_map Some (λ x y s. (x, y, refl, refl, s)) n.reached;
  at_rest = λ r s. let same : s.0 ≡ d = cc (s.2) in n.at_rest s.1 (subst (λ x. CoreStep R x s.1) same s.4);
}

-- a step on the parts of a `t` extension is one on the source or on the fields
t_parts : (R : List EntryParts) (o : Option CoreParts) (fs : List FieldParts) (q : TForm)
    → TransformStep R (with_source o fs) q → ((r : Option CoreParts) × OnSome R o r)
    ⊎ ((gs : List FieldParts) × ListStep false separator_cmp fs gs)
t_parts R o fs q (on_source c d from to s h) = inl (q.source, (c, d, from, to, s))
t_parts R o fs q (on_fields h s) = inr (q.fields, s)

-- if `q` has the normal forms of the source and of the fields of `p`, it is the normal form of the parts `p` of a `t`
-- extension
pub transform_settles : (R : List EntryParts) (p q : TForm) → IsNormalForm (OnSome R) p.source q.source
    → IsNormalForm (ListStep false separator_cmp) p.fields q.fields → IsNormalForm (TransformStep R) p q
transform_settles R p q =
    pair_settles with_source (λ o r fs s. on_source s.0 s.1 s.2 s.3 s.4 refl) (λ o fs gs s. on_fields refl s) (t_parts R)

module _ (R : List EntryParts) (C : MeetsCoreConditions R) where
  -- the normal form of the parts of a `t` extension, under the conditions C1 to C6
  abbrev pub t_form : TForm → TForm
  t_form p = record { source = option_map (normal_core R C) p.source; fields = sorted false separator_cmp p.fields }

  -- a step on the parts of a `t` extension keeps their normal form
  t_kept : (p q : TForm) → TransformStep R p q → t_form p ≡ t_form q
  t_kept p q (on_source c d from to s same_fields) =
      ap₂ with_source (ap (option_map (normal_core R C)) from ∙ ap Some ((cores_formed R C).kept c d s)
      ∙ sym (ap (option_map (normal_core R C)) to)) (ap (sorted false separator_cmp) (sym same_fields))
  t_kept p q (on_fields h s) =
      ap₂ with_source (ap (option_map (normal_core R C)) (sym h)) (list_step_keeps false separator_cmp separator_total p.fields q.fields s)

  -- the normal form of a source, if there is one, is its core normal form
  source_formed : (o : Option CoreParts) → IsNormalForm (OnSome R) o (option_map (normal_core R C) o)
  source_formed None = none_settles R
  source_formed (Some c) = source_settles R (form_is_normal (cores_formed R C) c)

  -- `t_form` gives the normal form: each step keeps it, steps reach it, and none leads from it
  pub t_formed : IsFormOf (TransformStep R) t_form
  t_formed =
      formed_by t_kept (λ p. transform_settles R p (t_form p) (source_formed p.source)
      (form_is_normal (sorting_is_form false separator_cmp separator_total) p.fields))

module _ (R : List EntryParts) (S : (c d : CoreParts) → IsCore c → CoreStep R c d → IsCore d) where
  -- a step on the parts of a `t` extension keeps their shapes
  pub t_shaped : (p q : TForm) → TransformStep R p q → IsT p → IsT q
  t_shaped p q (on_source c d from to s same_fields) k =
      record {
        source = is_if_some IsCore q.source d to (S c d (if_some_is IsCore p.source c from k.source) s);
        fields = subst (AllByRecursion IsField) (sym same_fields) k.fields;
        some = omega (arith, ap (λ o. length (spell_source o)) to, length-append (spell_source q.source) (flat_map spell_field q.fields));
      }
  t_shaped p q (on_fields h s) k =
      record {
        source = let Q : Option CoreParts → Type 0 = λ o. IfSome o IsCore in subst Q (sym h) k.source;
        fields = all_step IsField p.fields q.fields s k.fields;
        some = omega (
          arith,
          some_spelled spell_field (λ f. omega arith) q.fields (step_some p.fields q.fields s),
          length-append (spell_source q.source) (flat_map spell_field q.fields),
        );
      }

-- a step on the parts of a `t` extension leads to parts with no more subtags
pub t_step_length : (R : List EntryParts) (p q : TForm) → TransformStep R p q → length (spell_t q) ≤ length (spell_t p)
t_step_length R p q (on_source c d from to s same_fields) =
    omega (
      arith,
      length-append {A = List ℕ},
      spelled_no_longer c d (core_step_no_longer R c d s),
      ap (λ o. length (spell_source o)) from,
      ap (λ o. length (spell_source o)) to,
      ap (λ fs. length (flat_map spell_field fs)) same_fields,
    )
t_step_length R p q (on_fields h s) =
    omega (arith, length-append {A = List ℕ}, ap (λ o. length (spell_source o)) h, spelled_step spell_field p.fields q.fields s)

-- there are as many attributes as subtags that they spell
pub attributes_count : (xs : List (List ℕ)) → length (flat_map (λ a. a ∷ []) xs) ≡ length xs
attributes_count [] = refl
attributes_count (x ∷ xs) = omega (arith, attributes_count xs)
