-- The proof of `fields_are_shared`: what follows one canonical source with fields, in the canonical text of a `t`
-- extension, follows every canonical source with the same fields. So the cache may keep it for the fields. A `t`
-- extension has a source, which is a langtag, and then fields: `it` and `-m0-names`.
use Rattle.std.proofs.Common.{◌≡◌, ◌≢◌, ℕ, ◌≤◌, ◌==◌, true, not, List, [], ◌∷◌, ◌++◌, length, refl, sym, ap, ◌∙◌, subst}
use Rattle.std.proofs.Common.{arith, false, Some, IfSome, flat_map, ◌-◌, take, drop, None}
use Rattle.std.specs.List.{AllByRecursion, join_with_byte, list_all}
use Rattle.std.proofs.lemmas.Bool.{and_parts}
use Rattle.std.proofs.lemmas.List.{append-nil, append_assoc, length-append, length-map, take_rest}
use Rattle.lt_subtag.specs.Bytes.{folded}
use Rattle.lt_tag.specs.Parts.{CoreParts, ExtensionParts, LangTag, FieldParts, TForm}
use Rattle.lt_tag.specs.Values.{core_alone}
use Rattle.lt_tag.specs.Lists.{pieces, list_of, longest_text}
use Rattle.lt_tag.specs.Spelling.{x_subtag, spell_core, spell_extension, spell_extensions, spell_private, IsCore}
use Rattle.lt_tag.specs.Splitting.{before, fields_of}
use Rattle.lt_tag.specs.Faults.{HasTag}
use Rattle.lt_tag.proofs.ListLemmas.{head_is, list_all-append, tail_is}
use Rattle.lt_tag.proofs.ShapeLemmas.{core_parts}
use Rattle.lt_tag.proofs.SplitLemmas.{fields-append, fields-spelled}
use Rattle.lt_tag.proofs.TextLemmas.{some_pieces}
use Rattle.lt_registry.specs.Parts.{EntryParts}
use Rattle.lt_registry.specs.Validity.{HasDistinctSource, IsValid, Distinct}
use Rattle.lt_rewrite.proofs.NormalForms.{form_is_normal, star_rests, normal_is_form, star_keeps, rest_is_form}
use Rattle.lt_rewrite.proofs.ProperTags.{proper_parts}
use Rattle.lt_check.specs.Conditions.{IsChecked}
use Rattle.lt_canon.proofs.TagForm.{core_end, extensions_end, extension_end, cores_formed}
use Rattle.lt_cache.specs.Ends.{IsEnd, IsCanonicalCore, IsFields, IsFieldsText, IsTransformed, FieldsAreShared}
use Rattle.std.specs.Char.{to_ascii_lowercase, is_ascii_alphabetic, is_ascii_digit}
use Rattle.std.proofs.lemmas.List.Folds.{list_all-append as all-append}
use Rattle.lt_subtag.specs.Shapes.{is_separator}
use Rattle.lt_tag.specs.Extensions.{transform, spell_field, spell_t, IsField, IsTransform}
use Rattle.lt_tag.proofs.ListedLemmas.{length-pieces}
use Rattle.lt_tag.proofs.LetterLemmas.{join_pieces, list_of_is}
use Rattle.lt_tag.proofs.PartsLemmas.{t_again, t_value}
use Rattle.lt_rewrite.specs.Orderings.{ListStep, by_swap, by_drop}
use Rattle.lt_rewrite.specs.Extensions.{singleton_cmp, on_source, on_fields, TransformStep}
use Rattle.lt_rewrite.proofs.PartLists.{all_step, step_some}
use Rattle.lt_rewrite.proofs.PartForms.{t_form, t_formed}
use Rattle.lt_rewrite.proofs.ExtensionForms.{extension_formed, extensions_ordered, transform_settled}
use Rattle.lt_tag.proofs.PartsLaws.{t_unique as one_transform}
use Rattle.std.proofs.lemmas.Bool.Decides.{nat_tests}
use Rattle.lt_cache.specs.Appending.{FollowsSingleton, BeginsWithSeparator}
use Rattle.lt_cache.proofs.EndLemmas.{CanFollow, core_list, core_no_single, core_rests, extension_alone, has_end}
use Rattle.lt_cache.proofs.EndLemmas.{join_append, list_after, list_append, no_single, one_text, spell_rest, text_with}
use Rattle.lt_cache.proofs.EndLemmas.{whole_list}

-- ---- the subtags of a source and fields

-- the parts of a `t` extension of a source and fields
abbrev with_source : CoreParts → List FieldParts → TForm
with_source c fs = record { source = Some c; fields = fs }

-- the `t` extension of a source and fields
abbrev t_of : CoreParts → List FieldParts → ExtensionParts
t_of c fs = record { singleton = transform; subtags = spell_t (with_source c fs) }

-- the fields in a core's subtags and others are those in the others, as a core has no separator of a field
fields_after : (c : CoreParts) (ss : List (List ℕ)) → IsCore c → fields_of (spell_core c ++ ss) ≡ fields_of ss
fields_after c ss k = fields-append (spell_core c) ss (core_parts (λ (s : List ℕ). not (is_separator s)) (λ s p. p.no_separator) c k)

-- the list of a text of fields is what these spell
fields_list : {fields : List ℕ} (K : IsFields fields) → list_of K.rest ≡ flat_map spell_field (fields_of (list_of K.rest))
fields_list K = sym (fields-spelled (list_of K.rest))
    ∙ ap (λ (l : List (List ℕ)). l ++ flat_map spell_field (fields_of (list_of K.rest))) K.separator

-- a `t` extension of a source and fields is an end
abbrev transformed_end : (source fields end : List ℕ) → IsTransformed source fields end → IsEnd end
transformed_end source fields end T = record {
  singleton = T.singleton;
  rest = source ++ fields;
  single = λ e. let bad : to_ascii_lowercase 45 ≡ 116 = ap to_ascii_lowercase (sym e) ∙ T.is_t in absurd (omega (arith, bad));
  whole = T.whole;
}

-- the list of such an end is the subtags of the extension; `c` is the source that is read
transformed_list : (source fields end : List ℕ) (c : CoreParts) (T : IsTransformed source fields end) → HasTag source (core_alone c)
    → list_after (transformed_end source fields end T) ≡ spell_extension (t_of c (fields_of (list_of T.is_fields.rest)))
transformed_list source fields end c T read =
    let K = T.is_fields in
    let list = ap (λ (l : List ℕ). list_of (source ++ l)) K.whole ∙ list_append source K.rest
    ∙ (λ i. core_list source c read i ++ fields_list K i) in
    λ i. (T.is_t i ∷ []) ∷ list i

-- extensions and private use without a one-character subtag are none
none_more : (es : List ExtensionParts) (ps : List (List ℕ)) → no_single (spell_rest es ps) ≡ true → (es ≡ []) × (ps ≡ [])
none_more [] [] h = (refl, refl)
none_more es ps h = cc

-- extensions and private use that spell `t` (116) and subtags, `xs`, none of one character, are one `t` extension
one_extension : (es : List ExtensionParts) (ps xs : List (List ℕ)) → spell_rest es ps ≡ (116 ∷ []) ∷ xs
    → no_single xs ≡ true → (es ≡ record { singleton = transform; subtags = xs } ∷ []) × (ps ≡ [])
one_extension [] [] xs e h = cc
one_extension [] (p ∷ ps) xs e h = absurd (omega (arith, head_is 120 116 [] [] (head_is x_subtag (116 ∷ []) (p ∷ ps) xs e)))
one_extension (x ∷ es) ps xs e h =
    let rest : x.subtags ++ spell_rest es ps ≡ xs =
    sym (append_assoc x.subtags (spell_extensions es) (spell_private ps))
    ∙ tail_is (x.singleton ∷ []) (116 ∷ []) _ xs e in
    let none = none_more es ps (and_parts (no_single x.subtags) _ (sym (all-append _ x.subtags (spell_rest es ps))
    ∙ ap no_single rest ∙ h)).1 in
    let first : x.singleton ≡ 116 = cc in
    let subtags : x.subtags ≡ xs = sym (append-nil x.subtags) ∙ (λ i. x.subtags ++ spell_rest (sym none.0 i) (sym none.1 i)) ∙ rest in
    ((λ i. let e : ExtensionParts = record { singleton = first i; subtags = subtags i } in e ∷ none.0 i), none.1)

-- these are well-formed fields, at least one
record AreFields (fs : List FieldParts) : Type 0 where
  each : AllByRecursion IsField fs
  some : fs ≢ []

-- a text of fields has at least one
fields_some : {fields : List ℕ} (K : IsFields fields) → fields_of (list_of K.rest) ≢ []
fields_some K none = omega (
  arith,
  some_pieces K.rest,
  length-map (pieces K.rest) folded,
  ap length (fields_list K ∙ ap (flat_map spell_field) none),
)

-- the text of one `t` extension: `t` (116), the source in lower case, and the fields, after hyphens (45)
extension_text : (source : List ℕ) (c : CoreParts) (fs : List FieldParts) → HasTag source (core_alone c) → fs ≢ []
    → join_with_byte 45 (spell_rest (t_of c fs ∷ []) []) ≡ 116 ∷ 45 ∷ (folded source ++ 45 ∷ join_with_byte 45 (flat_map spell_field fs))
extension_text source c [] read some = absurd (some refl)
extension_text source c (f ∷ fs) read some =
    ap (join_with_byte 45) (extension_alone (t_of c (f ∷ fs))) ∙ ap (λ (l : List ℕ). 116 ∷ 45 ∷ l) (join_append c.language _ f.separator _)
    ∙ ap (λ (l : List ℕ). 116 ∷ 45 ∷ (l ++ 45 ∷ join_with_byte 45 (flat_map spell_field (f ∷ fs)))) (ap (join_with_byte
    45) (sym (core_list source c read) ∙ list_of_is source) ∙ join_pieces (folded source))

-- in a registry that passes the check
module _ (R : List EntryParts) (C : IsChecked R) where
  -- a canonical source and well-formed fields are the parts of the `t` extension that they spell
  formed : {source : List ℕ} (G : IsCanonicalCore R source) (fs : List FieldParts) → AreFields fs
      → IsTransform (spell_t (with_source G.core fs)) (with_source G.core fs)
  formed G fs A = record { shaped = record { source = G.read.tag.0.shaped_core; fields = A.each; some = omega arith }; spelled = refl }

  -- ---- the end of fields after a canonical source

  -- a step within a `t` extension leaves its fields well-formed
  fields_kept : (p q : TForm) → TransformStep R p q → AreFields p.fields → AreFields q.fields
  fields_kept p q (on_source _ _ _ _ _ same) A = subst AreFields (sym same) A
  fields_kept p q (on_fields _ s) A = record { each = all_step IsField p.fields q.fields s A.each; some = step_some p.fields q.fields s }

  -- the normal form of a `t` extension's parts
  abbrev parts_end : TForm → TForm
  parts_end = t_form R C.passes.core_conditions

  -- the normal form of fields
  abbrev fields_end : List FieldParts → List FieldParts
  fields_end fs = (parts_end (record { source = None; fields = fs })).fields

  -- the normal form of well-formed fields is well-formed
  fields_ended : (fs : List FieldParts) → AreFields fs → AreFields (fields_end fs)
  fields_ended fs A =
      let none : TForm = record { source = None; fields = fs } in
      star_keeps (λ (p : TForm). AreFields p.fields) fields_kept ((t_formed R C.passes.core_conditions).reached none) A

  -- a list of one extension is in order: no step swaps it or drops it
  no_step : (e : ExtensionParts) (fs : List ExtensionParts) → ListStep false singleton_cmp (e ∷ []) fs → ⊥
  no_step e fs (by_swap before a b after s) = omega (arith, ap length s.there, length-append before (a ∷ b ∷ after))
  no_step e fs (by_drop before a between b after o s) = let bad : false ≡ true = o in cc

  -- the steps within a list of one `t` extension with a canonical source end with the same source and the normal form
  -- of the fields
  extension_ended : {source : List ℕ} (G : IsCanonicalCore R source) (fs : List FieldParts) → AreFields fs
      → extensions_end R C (t_of G.core fs ∷ []) ≡ t_of G.core (fields_end fs) ∷ []
  extension_ended G fs A =
      let p = with_source G.core fs in
      let settled = transform_settled R C.registry (t_of G.core fs) p (parts_end p) refl (formed G fs A)
      (form_is_normal (t_formed R C.passes.core_conditions) p) in
      sym (star_rests (extensions_ordered R C.registry C.passes.core_conditions (t_of G.core fs ∷ []))
      (no_step (extension_end R C (t_of G.core fs))))
      ∙ ap (λ (e : ExtensionParts). e ∷ []) (normal_is_form (extension_formed R C.registry C.passes.core_conditions)
      (t_of G.core fs) (t_of (core_end R C G.core) (fields_end fs)) settled)
      ∙ ap (λ (c : CoreParts). t_of c (fields_end fs) ∷ []) (rest_is_form (cores_formed R C) G.core (core_rests R C G.core G.canonical))

  -- a canonical source repeats no variant
  distinct_source : {source : List ℕ} (G : IsCanonicalCore R source) (fs : List FieldParts) → AreFields fs
      → HasDistinctSource (t_of G.core fs)
  distinct_source G fs A = λ t q k.
      subst (λ (p : TForm). IfSome p.source (λ (c : CoreParts). Distinct c.variants))
      (one_transform _ _ q (formed G fs A) k) G.canonical.valid.distinct.0

  -- fields follow each canonical source, after each canonical core, as their normal form
  with_fields : (fields : List ℕ) (K : IsFields fields) → AreFields (fields_of (list_of K.rest))
      → IsFieldsText R fields (45 ∷ join_with_byte 45 (flat_map spell_field (fields_end (fields_of (list_of K.rest)))))
  with_fields fields K A front source end F G U short =
      let fs = fields_of (list_of K.rest) in
      let B = fields_ended fs A in
      let reached = extension_ended G fs A in
      let T : IsTransformed source fields end = record { singleton = U.singleton; is_t = U.is_t; whole = U.whole; is_fields = K } in
      let list = transformed_list source fields end G.core T G.read in
      let few : length (spell_t (with_source G.core fs)) ≤ longest_text =
      omega (
        arith,
        short,
        length-append front end,
        ap length U.whole,
        length-map (pieces (source ++ fields)) folded,
        length-pieces (source ++ fields),
        ap length list,
      ) in
      let is = formed G fs A in
      let follow : CanFollow R C (t_of G.core fs ∷ []) [] = record {
        parts = λ c k. record {
          core = k;
          values = (t_value _ _ is.shaped few refl, tt);
          count = omega arith;
          private = refl;
          private_count = omega arith;
          extensions = ((λ t. (_, is, (proper_parts R G.core [] [] G.canonical.valid.proper).core.proper)), tt);
          singletons = (tt, tt);
        };
        distinct = (distinct_source G fs A, tt);
        sources = subst (AllByRecursion HasDistinctSource) (sym reached) (distinct_source G (fields_end fs) B, tt);
        some = omega arith;
      } in
      text_with R C front end _ F (t_of G.core fs ∷ []) [] follow
      (whole_list front end F.core (transformed_end source fields end T) F.read
      ∙ ap (λ (l : List (List ℕ)). spell_core F.core ++ l) (list ∙ sym (extension_alone (t_of G.core fs))))
      (ap (λ (es : List ExtensionParts). join_with_byte 45 (spell_rest es [])) reached
      ∙ extension_text source G.core (fields_end fs) G.read B.some) short

  -- what follows one canonical source with fields, in its canonical text, follows each with the same fields
  pub fields_shared : FieldsAreShared R
  fields_shared front source fields end canonical F G T a =
      let K = T.is_fields in
      let fs = fields_of (list_of K.rest) in
      let E = transformed_end source fields end T in
      let H = has_end a.tag F.core _ (list_of E.rest) a.read.tag F.read.tag.0.shaped_core (a.read.spelled
      ∙ whole_list front end F.core E F.read) in
      let none = list_all-append (λ (s : List ℕ). not (length s == 1)) (spell_core G.core) (list_of K.rest)
      (core_no_single G.core G.read.tag.0.shaped_core) K.no_singleton in
      let one = one_extension H.0 H.1 (t_of G.core fs).subtags
      (H.3 ∙ transformed_list source fields end G.core T G.read)
      (ap (λ (l : List (List ℕ)). no_single (spell_core G.core ++ l)) (sym (fields_list K)) ∙ none) in
      let parts = (subst (IsValid R) (H.2 ∙ (λ i. LangTag F.core (one.0 i) (one.1 i))) a.is_form.valid).proper.parts.extensions.0 refl in
      let found : parts.0.fields ≡ fs = sym (t_again parts.0 parts.1.shaped).fields ∙ ap fields_of parts.1.spelled
      ∙ fields_after G.core _ G.read.tag.0.shaped_core ∙ ap fields_of (sym (fields_list K)) in
      let A : AreFields fs = record { each = subst (AllByRecursion IsField) found parts.1.shaped.fields; some = fields_some K } in
      let shared = with_fields fields K A in
      record { rest = _; whole = one_text R C (front ++ end) _ _ a (shared front source end F G T a.read.short); shared = shared }

-- a letter and a digit are a separator of a field, in either case
pub pair_separator : (letter digit : ℕ) → is_ascii_alphabetic letter ≡ true → is_ascii_digit digit ≡ true
    → is_separator (folded (letter ∷ digit ∷ [])) ≡ true
unfolding is_separator
pair_separator letter digit a d = grind (arith, nat_tests)

-- a text that begins with a separator and a hyphen (45) has no subtag before its first separator
first_separator : (letter digit : ℕ) (rest : List ℕ) → is_separator (folded (letter ∷ digit ∷ [])) ≡ true
    → before is_separator (list_of (letter ∷ digit ∷ 45 ∷ rest)) ≡ []
unfolding is_separator
first_separator letter digit rest h = grind (arith, nat_tests)

-- an end of the singleton `t`, a source, and fields that begin with a separator and have no one-character subtag is a
-- `t` extension of these
pub transformed : (end rest source fields : List ℕ) → FollowsSingleton rest end → source ++ fields ≡ rest → BeginsWithSeparator fields
    → list_all (λ (s : List ℕ). not (length s == 1)) (list_of (take (length fields - 1) (drop 1 fields))) ≡ true
    → IsTransformed source fields end
transformed end rest source fields F whole S none = record {
  singleton = F.singleton;
  is_t = F.is_t;
  whole = F.whole ∙ ap (λ (l : List ℕ). 45 ∷ F.singleton ∷ 45 ∷ l) (sym whole);
  is_fields = record {
    rest = S.letter ∷ S.digit ∷ 45 ∷ S.rest;
    whole = S.whole;
    separator = first_separator S.letter S.digit S.rest S.separator;
    no_singleton = ap (λ (l : List ℕ). list_all (λ (s : List ℕ). not (length s == 1)) (list_of l)) (sym
        (take_rest fields 1 ∙ ap (drop 1) S.whole)) ∙ none;
  };
}
