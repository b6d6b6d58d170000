-- The laws of `parts_laws`: the subtags of a `u` or `t` extension are spelled by one value of parts at most, and
-- `core_of_list`, `unicode_of` and `transform_of` give a value exactly if it has its form and spells the subtags.
use Rattle.std.proofs.Common.{◌≡◌, ℕ, ◌<◌, ◌↔◌, true, ◌&&◌, List, length, refl, sym, ap, ◌∙◌, inl, inr, arith}
use Rattle.std.specs.Prelude.{Option, Some, None, option_map, nat_lt}
use Rattle.std.specs.List.{list_all}
use Rattle.std.proofs.lemmas.Bool.{and_from, lt-ltb}
use Rattle.lt_subtag.specs.Shapes.{is_key, is_separator}
use Rattle.lt_tag.specs.Parts.{CoreParts, ExtensionParts, KeywordParts, UForm, TForm}
use Rattle.lt_tag.specs.Spelling.{spell_core, IsCore, IsExtension, is_extension_subtag}
use Rattle.lt_tag.specs.Extensions.{spell_u, IsU, IsUnicode, spell_t, IsT, IsTransform}
use Rattle.lt_tag.specs.Splitting.{before, keywords_of, fields_of, core_of_list, source_of_list, has_values, unicode_of}
use Rattle.lt_tag.specs.Splitting.{with_fields, transform_of}
use Rattle.lt_tag.proofs.ListLemmas.{chosen}
use Rattle.lt_tag.proofs.PartsLemmas.{u_extension, u_again, u_found, core_found, core_again, t_again, t_found, IsFound}
use Rattle.std.proofs.lemmas.Bool.Decides.{nat_tests}

-- equal options hold equal values
some_same : {X : Type 0} (x y : X) → ◌≡◌ {A = Option X} (Some x) (Some y) → x ≡ y
some_same x y h = cc

-- the subtags of any extension are spelled by parts of a `u` extension
pub has_parts : (e : ExtensionParts) → IsExtension e → (p : UForm) × IsUnicode e.subtags p
has_parts e h =
    let p : UForm = record { attributes = before is_key e.subtags; keywords = keywords_of e.subtags } in
    (p, u_found e.subtags p h.subtags h.some refl refl)

-- the parts of a `u` extension with these attributes and keywords: equal ones make equal parts
abbrev u_form : List (List ℕ) → List KeywordParts → UForm
u_form attributes keywords = record { attributes = attributes; keywords = keywords }

-- subtags are spelled by the parts of one `u` extension at most
pub u_unique : (ss : List (List ℕ)) (p q : UForm) → IsUnicode ss p → IsUnicode ss q → p ≡ q
u_unique ss p q h k =
    let e : spell_u p ≡ spell_u q = h.spelled ∙ sym k.spelled in
    let f = u_again p h.shaped in
    let g = u_again q k.shaped in
    let same : u_form p.attributes p.keywords ≡ u_form q.attributes q.keywords = cc in
    same

-- subtags are spelled by the parts of one `t` extension at most
pub t_unique : (ss : List (List ℕ)) (p q : TForm) → IsTransform ss p → IsTransform ss q → p ≡ q
t_unique ss p q h k =
    let e : spell_t p ≡ spell_t q = h.spelled ∙ sym k.spelled in
    let f = t_again p h.shaped in
    let g = t_again q k.shaped in
    let same : with_fields p.fields p.source ≡ with_fields q.fields q.source = cc in
    same

-- `core_of_list` gives a core exactly if the core is shaped and spells the subtags
pub core_decided : (ss : List (List ℕ)) (core : CoreParts) → (core_of_list ss ≡ Some core) ↔ (IsCore core × (spell_core core ≡ ss))
core_decided ss core = (core_found ss core, λ k. ap core_of_list (sym k.1) ∙ core_again core k.0)

-- the parts that `unicode_of` gives have their forms and spell the subtags
u_forward : (ss : List (List ℕ)) (p : UForm) → unicode_of ss ≡ Some p → IsUnicode ss p
unfolding unicode_of
u_forward ss p h =
    let test : (nat_lt 0 (length ss) && list_all is_extension_subtag ss) ≡ true = grind (arith, nat_tests) in
    let e : u_form (before is_key ss) (keywords_of ss) ≡ p = grind (arith, nat_tests) in
    u_found ss p (grind (arith, nat_tests)) (grind (arith, nat_tests)) (ap (λ (z : UForm). z.attributes) (sym e))
    (ap (λ (z : UForm). z.keywords) (sym e))

-- `unicode_of` gives parts with their forms again, of the subtags that they spell
u_backward : (p : UForm) → IsU p → unicode_of (spell_u p) ≡ Some p
unfolding unicode_of
u_backward p h =
    let test : (nat_lt 0 (length (spell_u p)) && list_all is_extension_subtag (spell_u p)) ≡ true = and_from _ _
    (lt-ltb 0 (length (spell_u p)) h.some) (u_extension p h) in
    rw (test, (u_again p h).0, (u_again p h).1) refl

-- `unicode_of` gives parts exactly if they have their forms and spell the subtags
pub u_decided : (ss : List (List ℕ)) (p : UForm) → (unicode_of ss ≡ Some p) ↔ IsUnicode ss p
u_decided ss p = (u_forward ss p, λ k. ap unicode_of (sym k.spelled) ∙ u_backward p k.shaped)

-- If o is the source that is found in the subtags before the first separator, and p has this source and the fields of
-- the subtags, which have values, the parts p are found in the subtags.
t_at : (ss : List (List ℕ)) (p : TForm) (o : Option (Option CoreParts)) → source_of_list (before is_separator ss) ≡ o
    → option_map (with_fields (fields_of ss)) o ≡ Some p → list_all has_values (fields_of ss) ≡ true → 0 < length ss
    → IsFound ss p
t_at ss p None e h v n = cc
t_at ss p (Some source) e h v n =
    let same : with_fields (fields_of ss) source ≡ p = some_same _ _ h in
    record { source = e ∙ ap (λ (z : TForm). Some z.source) same; fields = ap (λ (z : TForm). z.fields) same; values = v; some = n }

-- the parts that `transform_of` gives have their forms and spell the subtags
t_forward : (ss : List (List ℕ)) (p : TForm) → transform_of ss ≡ Some p → IsTransform ss p
unfolding transform_of
t_forward ss p h =
    elim (chosen (nat_lt 0 (length ss) && list_all has_values (fields_of ss)) _ _ _ h) [
      | inl a ↦ t_found ss p (t_at ss p (source_of_list (before is_separator ss)) refl a.1
          (grind (arith, nat_tests, a.0)) (grind (arith, nat_tests, a.0)))
      | inr a ↦ let impossible : None ≡ Some p = a.1 in cc
    ]

-- `transform_of` gives parts with their forms again, of the subtags that they spell
t_backward : (p : TForm) → IsT p → transform_of (spell_t p) ≡ Some p
unfolding transform_of
t_backward p h =
    let again = t_again p h in
    let test : (nat_lt 0 (length (spell_t p)) && list_all has_values (fields_of (spell_t p))) ≡ true = and_from _ _
    (lt-ltb 0 (length (spell_t p)) again.some) again.values in
    rw (test, again.source, again.fields) refl

-- `transform_of` gives parts exactly if they have their forms and spell the subtags
pub t_decided : (ss : List (List ℕ)) (p : TForm) → (transform_of ss ≡ Some p) ↔ IsTransform ss p
t_decided ss p = (t_forward ss p, λ k. ap transform_of (sym k.spelled) ∙ t_backward p k.shaped)
