-- For the functions that append an end without reading the text as a tag: an end that is canonical but for the case of
-- its letters follows each canonical core in lower case, and an end of keywords follows it as their normal form.
use Rattle.std.proofs.Common.{◌≡◌, ℕ, ◌<◌, ◌≤◌, ◌+◌, true, false, List, [], ◌∷◌, ◌++◌, refl, sym, ap, ◌∙◌, subst}
use Rattle.std.proofs.Common.{subst₂, length, arith, inl, inr, ◌⊎◌, ◌==◌, ◌&&◌, ◌||◌, None}
use Rattle.std.specs.Prelude.{Result, Ok, Err, OnOk, is_err}
use Rattle.std.specs.List.{list_all, AllByRecursion, join_with_byte}
use Rattle.std.specs.Char.{to_ascii_lowercase}
use Rattle.std.proofs.lemmas.Bool.{cases_Bool, and_parts, eqb-true}
use Rattle.std.proofs.lemmas.Bool.Decides.{nat_tests}
use Rattle.std.proofs.lemmas.List.{append_assoc, length-append, length-map}
use Rattle.lt_subtag.specs.Bytes.{folded, is_subtag}
use Rattle.lt_subtag.specs.Shapes.{is_singleton}
use Rattle.lt_tag.specs.Parts.{ExtensionParts, UForm}
use Rattle.lt_tag.specs.Extensions.{unicode, spell_u, IsUnicode}
use Rattle.lt_tag.specs.Lists.{list_of, pieces, longest_text}
use Rattle.lt_tag.specs.Conventional.{conventional}
use Rattle.lt_tag.specs.Spelling.{spell_core, IsExtension, is_extension_subtag}
use Rattle.lt_tag.proofs.LetterLemmas.{join_pieces, list_of_is}
use Rattle.lt_tag.proofs.ListedLemmas.{length-pieces}
use Rattle.lt_tag.proofs.PartsLemmas.{u_extension}
use Rattle.lt_tag.proofs.TextLemmas.{some_pieces}
use Rattle.lt_registry.specs.Parts.{EntryParts}
use Rattle.lt_registry.specs.Validity.{HasDistinctSource}
use Rattle.lt_rewrite.specs.Rewriting.{IsNormalForm}
use Rattle.lt_rewrite.specs.Orderings.{ListStep, by_swap, by_drop}
use Rattle.lt_rewrite.specs.Extensions.{UnicodeStep, singleton_cmp}
use Rattle.lt_rewrite.proofs.NormalForms.{normal_is_form, rest_is_form, star_rests}
use Rattle.lt_rewrite.proofs.ExtensionForms.{extension, extension_formed, extensions_ordered, unicode_settled}
use Rattle.lt_check.specs.Conditions.{IsChecked}
use Rattle.lt_canon.specs.Texts.{AppendsCanonicalText}
use Rattle.lt_canon.proofs.TagForm.{extension_end, extensions_end, extensions_end_formed, none_rests}
use Rattle.lt_canon.proofs.StayingTags.{stays_canonical}
use Rattle.lt_check.specs.Staying.{IsStaying}
use Rattle.lt_cache.specs.Ends.{IsEnd, IsEndText, IsCanonicalCore}
use Rattle.lt_cache.proofs.EndLemmas.{CanFollow, text_with, whole_list, extension_alone, spell_rest}
use Rattle.lt_rewrite.specs.RisingKeys.{keys_rise}
use Rattle.lt_cache.specs.SettledEnds.{AppendsEndText, is_settled_end}
use Rattle.lt_cache.specs.KeywordEnds.{IsKeywordEnd}
use Rattle.lt_cache.proofs.KeywordEnds.{hyphened_joined}
use Rattle.lt_rewrite.proofs.KeysRise.{rise, parts, parts_found, parts_rest}

-- the list of a text joined by hyphens (45) is the text in lower case
list_text : (text : List ℕ) → join_with_byte 45 (list_of text) ≡ folded text
list_text text = ap (join_with_byte 45) (list_of_is text) ∙ join_pieces (folded text)

-- a one-byte subtag, `b`, and the list of a text joined by hyphens (45) are the byte, a hyphen, and the text in lower
-- case
after_first : (b : ℕ) (text : List ℕ) → join_with_byte 45 ((b ∷ []) ∷ list_of text) ≡ b ∷ 45 ∷ folded text
after_first b text = go (list_of text) (omega (arith, length-map (pieces text) folded, some_pieces text))
    ∙ ap (λ (l : List ℕ). b ∷ 45 ∷ l) (list_text text)
  where
    go : (ss : List (List ℕ)) → 0 < length ss → join_with_byte 45 ((b ∷ []) ∷ ss) ≡ b ∷ 45 ∷ join_with_byte 45 ss
    go [] n = absurd (omega arith)
    go (s ∷ ss) n = refl

-- the list of a text is not empty
pub some_list : (text : List ℕ) → 0 < length (list_of text)
some_list text = omega (arith, length-map (pieces text) folded, some_pieces text)

-- the list of a text has at most one subtag more than the text has bytes
few_list : (text : List ℕ) → length (list_of text) ≤ length text + 1
few_list text = omega (arith, length-map (pieces text) folded, length-pieces text)

-- the end of a singleton, between two hyphens (45), and a rest
abbrev end_of : ℕ → List ℕ → List ℕ
end_of s rest = 45 ∷ s ∷ 45 ∷ rest

-- a list of one extension is in order: no step swaps it or drops it
no_step : (e : ExtensionParts) (fs : List ExtensionParts) → ListStep false singleton_cmp (e ∷ []) fs → ⊥
no_step e fs (by_swap before a b after s) = omega (arith, ap length s.there, length-append before (a ∷ b ∷ after))
no_step e fs (by_drop before a between b after o s) = let bad : false ≡ true = o in cc

-- subtags that are read as the parts of a `u` extension are those of a well-formed one
u_shaped : (ss : List (List ℕ)) (p : UForm) → IsUnicode ss p → IsExtension (extension unicode ss)
unfolding is_singleton is_subtag
u_shaped ss p u = record {
  singleton = refl;
  subtags = subst (λ (l : List (List ℕ)). list_all is_extension_subtag l ≡ true) u.spelled
      (u_extension p u.shaped);
  some = rw (← u.spelled) u.shaped.some;
}

-- in a registry that passes the check
module _ (R : List EntryParts) (C : IsChecked R) where
  -- the `u` extension of these subtags
  abbrev u_of : List (List ℕ) → ExtensionParts
  u_of ss = extension unicode ss

  -- the steps within a list of one `u` extension end with the extension of `q`, the normal form of its parts, `p`
  u_ended : (ss : List (List ℕ)) (p q : UForm) → IsUnicode ss p → IsNormalForm UnicodeStep p q
      → extensions_end R C (u_of ss ∷ []) ≡ u_of (spell_u q) ∷ []
  u_ended ss p q found n =
      sym (star_rests (extensions_ordered R C.registry C.passes.core_conditions (u_of ss ∷ [])) (no_step (extension_end R C (u_of ss))))
      ∙ ap (λ (e : ExtensionParts). e ∷ []) (normal_is_form (extension_formed R C.registry C.passes.core_conditions)
      (u_of ss) (u_of (spell_u q)) (unicode_settled R (u_of ss) p q refl found n))

  -- a `u` extension has no source, and so no variant that repeats
  u_distinct : (ss : List (List ℕ)) → HasDistinctSource (u_of ss)
  u_distinct ss = λ t q k. absurd (omega (arith, t))

  -- a `u` extension, whose parts `p` have the normal form `q`, can follow each canonical core
  u_follows : (ss : List (List ℕ)) (p q : UForm) → IsUnicode ss p → IsNormalForm UnicodeStep p q
      → length ss ≤ longest_text → CanFollow R C (u_of ss ∷ []) []
  u_follows ss p q found n few = record {
    parts = λ c k. record {
      core = k;
      values = (record { shaped = u_shaped ss p found; subtags = few }, tt);
      count = omega arith;
      private = refl;
      private_count = omega arith;
      extensions = ((λ t. absurd (omega (arith, t))), tt);
      singletons = (tt, tt);
    };
    distinct = (u_distinct ss, tt);
    sources = subst (AllByRecursion HasDistinctSource) (sym (u_ended ss p q found n)) (u_distinct (spell_u q), tt);
    some = omega arith;
  }

  -- a `u` extension follows each canonical core as the normal form, `q`, of its parts, `p`
  pub unicode_text : (s : ℕ) (rest : List ℕ) (p q : UForm) → to_ascii_lowercase s ≡ 117 → IsUnicode (list_of rest) p
      → IsNormalForm UnicodeStep p q
      → IsEndText R (end_of s rest) (45 ∷ join_with_byte 45 ((117 ∷ []) ∷ spell_u q))
  unicode_text s rest p q is_u found n front F short =
      let ss = list_of rest in
      let few : length ss ≤ longest_text = omega (arith, few_list rest, short, length-append front (end_of s rest)) in
      let E : IsEnd (end_of s rest) = record {
        singleton = s;
        rest = rest;
        single = λ e. let bad : to_ascii_lowercase 45
            ≡ 117 = ap to_ascii_lowercase (sym e) ∙ is_u in absurd (omega (arith, bad));
        whole = refl;
      } in
      text_with R C front (end_of s rest) _ F (u_of ss ∷ []) [] (u_follows ss p q found n few)
      (whole_list front (end_of s rest) F.core E F.read
      ∙ ap (λ (l : List (List ℕ)). spell_core F.core ++ l) ((λ i. (is_u i ∷ []) ∷ ss)
      ∙ sym (extension_alone (u_of ss))))
      (ap (λ (es : List ExtensionParts). join_with_byte 45 (spell_rest es [])) (u_ended ss p q found n)
      ∙ ap (join_with_byte 45) (extension_alone (u_of (spell_u q)))) short

  -- a `u` extension of keywords whose keys rise follows each canonical core as it is, in lower case
  u_text : (s : ℕ) (rest : List ℕ) → to_ascii_lowercase s ≡ 117 → keys_rise None (list_of rest) ≡ true
      → IsEndText R (end_of s rest) (45 ∷ 117 ∷ 45 ∷ folded rest)
  u_text s rest is_u h =
      let ss = list_of rest in
      let r = rise None ss h in
      let found = parts_found ss r (some_list rest) in
      subst (IsEndText R (end_of s rest))
      (ap (λ (l : List (List ℕ)). 45 ∷ join_with_byte 45 ((117 ∷ []) ∷ l)) found.spelled
      ∙ ap (λ (l : List ℕ). 45 ∷ l) (after_first 117 rest))
      (unicode_text s rest (parts ss) (parts ss) is_u found (parts_rest ss r))

  -- without extensions, the steps within extensions end without any
  x_ended : extensions_end R C [] ≡ []
  x_ended = rest_is_form (extensions_end_formed R C) [] (none_rests R)

  -- the subtags of private use without extensions: `x` (120), and those after it
  private_list : (ps : List (List ℕ)) → 0 < length ps → spell_rest [] ps ≡ (120 ∷ []) ∷ ps
  private_list [] n = absurd (omega arith)
  private_list (p ∷ ps) n = refl

  -- private use follows each canonical core as it is, in lower case
  x_text : (s : ℕ) (rest : List ℕ) → to_ascii_lowercase s ≡ 120 → list_all is_subtag (list_of rest) ≡ true
      → IsEndText R (end_of s rest) (45 ∷ 120 ∷ 45 ∷ folded rest)
  x_text s rest is_x h front F short =
      let ps = list_of rest in
      let some = some_list rest in
      let E : IsEnd (end_of s rest) = record {
        singleton = s;
        rest = rest;
        single = λ e. let bad : to_ascii_lowercase 45
            ≡ 120 = ap to_ascii_lowercase (sym e) ∙ is_x in absurd (omega (arith, bad));
        whole = refl;
      } in
      let follow : CanFollow R C [] ps = record {
        parts = λ c k. record {
          core = k;
          values = tt;
          count = omega arith;
          private = h;
          private_count = omega (arith, few_list rest, short, length-append front (end_of s rest));
          extensions = tt;
          singletons = tt;
        };
        distinct = tt;
        sources = subst (AllByRecursion HasDistinctSource) (sym x_ended) tt;
        some = omega (arith, some);
      } in
      text_with R C front (end_of s rest) _ F [] ps follow
      (whole_list front (end_of s rest) F.core E F.read
      ∙ ap (λ (l : List (List ℕ)). spell_core F.core ++ l) ((λ i. (is_x i ∷ []) ∷ ps) ∙ sym (private_list ps some)))
      (ap (λ (es : List ExtensionParts). join_with_byte 45 (spell_rest es ps)) x_ended
      ∙ ap (join_with_byte 45) (private_list ps some) ∙ after_first 120 rest) short

  -- a settled end has the singleton `u` (117, or 85) and keywords whose keys rise, or `x` (120, or 88) and subtags
  cases : (s : ℕ) (rest : List ℕ)
      → ((((s == 117) || (s == 85)) && keys_rise None (list_of rest))
      || (((s == 120) || (s == 88)) && list_all is_subtag (list_of rest))) ≡ true
      → ((to_ascii_lowercase s ≡ 117) × (keys_rise None (list_of rest) ≡ true))
      ⊎ ((to_ascii_lowercase s ≡ 120) × (list_all is_subtag (list_of rest) ≡ true))
  cases s rest h = elim (cases_Bool (((s == 117) || (s == 85)) && keys_rise None (list_of rest))) [
    | inl e ↦ inl (grind (arith, nat_tests), grind (arith, nat_tests))
    | inr e ↦ inr (grind (arith, nat_tests), grind (arith, nat_tests))
  ]

  -- an end with `u` and keywords whose keys rise, or with `x`, follows each canonical core as it is, in lower case
  by_letter : (s : ℕ) (rest : List ℕ) → ((to_ascii_lowercase s ≡ 117) × (keys_rise None (list_of rest) ≡ true))
      ⊎ ((to_ascii_lowercase s ≡ 120) × (list_all is_subtag (list_of rest) ≡ true))
      → IsEndText R (end_of s rest) (folded (end_of s rest))
  by_letter s rest (inl u) = subst (λ (b : ℕ). IsEndText R (end_of s rest) (45 ∷ b ∷ 45 ∷ folded rest)) (sym u.0) (u_text s rest u.0 u.1)
  by_letter s rest (inr x) = subst (λ (b : ℕ). IsEndText R (end_of s rest) (45 ∷ b ∷ 45 ∷ folded rest)) (sym x.0) (x_text s rest x.0 x.1)

  -- a settled end follows each canonical core as it is, in lower case
  settled_text : (end : List ℕ) → is_settled_end end ≡ true → IsEndText R end (folded end)
  settled_text (h ∷ s ∷ i ∷ rest) t =
      let q = and_parts ((h == 45) && (i == 45)) _ t in
      let hyphens = and_parts (h == 45) (i == 45) q.0 in
      subst₂ (λ (a b : ℕ). IsEndText R (a ∷ s ∷ b ∷ rest) (folded (a ∷ s ∷ b ∷ rest))) (sym (eqb-true h 45 hyphens.0))
      (sym (eqb-true i 45 hyphens.1)) (by_letter s rest (cases s rest q.1))
  settled_text _ t = cc

-- what a clause says of all results but errors is true of a result that is no error
pub ok_holds : {A B : Type 0} (r : Result A B) (P : Type 0) → is_err r ≡ false → OnOk r P → P
ok_holds (Ok a) P none holds = holds
ok_holds (Err b) P none holds = cc

-- a settled end was appended in lower case, and that is its canonical form
pub settled_appends : (end old new : List ℕ) → is_settled_end end ≡ true → new ≡ old ++ folded end → AppendsEndText end old new
settled_appends end old new settled grown = (folded end, λ R C. settled_text R C end settled, grown)

-- the normal form of an end of keywords was appended, and that is its canonical form
pub keywords_append : (end text old new : List ℕ) → IsKeywordEnd end text → new ≡ old ++ text → AppendsEndText end old new
keywords_append end text old new k grown =
    let joined : text ≡ 45 ∷ join_with_byte 45 ((117 ∷ []) ∷ spell_u k.to) = k.written
    ∙ ap (λ (l : List ℕ). 45 ∷ l) (hyphened_joined (117 ∷ []) (spell_u k.to)) in (
      text,
      λ R C. subst₂ (IsEndText R) (sym k.whole) (sym joined)
          (unicode_text R C k.singleton k.rest k.from k.to k.is_u k.read k.settled),
      grown,
    )

-- a front whose subtags stay and the canonical form of an end were appended, and that is the text's canonical text;
-- `middle` is what was there between the two
pub end_appended : (R : List EntryParts) → IsChecked R → (front end text old middle new : List ℕ) → IsStaying R front
    → front ++ end ≡ text → length text ≤ longest_text
    → middle ≡ old ++ conventional (list_of front) → AppendsEndText end middle new → AppendsCanonicalText R text old new
end_appended R C front end text old middle new stay whole short front_grown a =
    let F : IsCanonicalCore R front = record {
      core = stay.0;
      read = stay.1.read;
      canonical = (stays_canonical R front stay.0 stay.1 C).canonical;
    } in
    record {
      canonical = conventional (list_of front) ++ a.0;
      grown = a.2 ∙ ap (λ (l : List ℕ). l ++ a.0) front_grown ∙ append_assoc old (conventional (list_of front)) a.0;
      is_canonical = rw (← whole) (a.1 R C front F (omega (arith, short, ap length whole)));
    }

-- a front whose subtags stay and a settled end in lower case were appended, and that is the text's canonical text;
-- `middle` is what was there between the two
pub settled_appended : (R : List EntryParts) → IsChecked R → (front end text old middle new : List ℕ)
    → IsStaying R front → front ++ end ≡ text → length text ≤ longest_text
    → middle ≡ old ++ conventional (list_of front) → is_settled_end end ≡ true → new ≡ middle ++ folded end
    → AppendsCanonicalText R text old new
settled_appended R C front end text old middle new stay whole short front_grown settled grown =
    end_appended R C front end text old middle new stay whole short front_grown (settled_appends end middle new settled grown)
