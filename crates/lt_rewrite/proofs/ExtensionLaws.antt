-- The laws of the steps on extensions (`ordering_laws`): a list of extensions has exactly one normal form, and so do
-- the parts of a `u` or a `t` extension. And lemmas for `settle_u` and `settle_extensions`, which make that form.
use Rattle.std.proofs.Common.{◌≡◌, ℕ, ◌≤◌, ◌<◌, Bool, true, false, cond, List, [], ◌∷◌, ◌++◌, refl, sym, ap, ◌∙◌, subst}
use Rattle.std.proofs.Common.{subst₂, ap₂, length, arith, Option, Some, None, IfSome, ◌==◌, ◌≢◌, ltb, zero, suc, get_or}
use Rattle.std.proofs.Common.{set, take, drop}
use Rattle.std.specs.Prelude.{map, position}
use Rattle.std.specs.List.{AllByRecursion, position_or_len}
use Rattle.std.proofs.lemmas.List.{set_split, set-get_or, length-set, get_or_read, get_or-set_other}
use Rattle.lt_tag.specs.Parts.{UForm, TForm, ExtensionParts}
use Rattle.lt_tag.specs.Extensions.{IsTransform, transform, unicode}
use Rattle.lt_rewrite.specs.Rewriting.{Star, done, IsNormalForm, Rests}
use Rattle.lt_rewrite.specs.Extensions.{text_cmp, key_cmp, UnicodeStep, singleton_cmp, ExtensionStep, ExtensionsStep, inside}
use Rattle.lt_rewrite.specs.ExtensionSettling.{untrue}
use Rattle.lt_rewrite.proofs.Stars.{star_trans}
use Rattle.lt_rewrite.proofs.NormalForms.{IsFormOf, star_map, star_keeps, form_is_normal, normal_is_form}
use Rattle.lt_rewrite.proofs.Sorting.{sorting_is_form}
use Rattle.lt_rewrite.proofs.PartSorting.{parts_settle}
use Rattle.lt_rewrite.proofs.PartLists.{all_unmapped, all_both, round}
use Rattle.lt_registry.specs.Parts.{EntryParts}
use Rattle.lt_rewrite.proofs.CoreLaws.{step_shaped}
use Rattle.std.proofs.lemmas.Bool.{eqb-true, eqb-false}
use Rattle.std.proofs.lemmas.Bool.Decides.{nat_tests}
use Rattle.lt_registry.specs.Entries.{IsRegistry}
use Rattle.lt_rewrite.specs.Orderings.{ListStep}
use Rattle.lt_rewrite.specs.Conditions.{MeetsCoreConditions}
use Rattle.lt_rewrite.specs.OrderingLaws.{HasOneForm, UnicodeHasOneForm, TransformHasOneForm, ExtensionsHaveOneForm}
use Rattle.std.proofs.lemmas.List.Elements.{All-from_recursion, recursion_from_All, All-set}
use Rattle.std.proofs.lemmas.List.Sums.{fails_before_first}
use Rattle.lt_tag.proofs.TagLemmas.{AllByRecursion-weaker}
use Rattle.std.proofs.lemmas.List.Quantifiers.{position-Some}
use Rattle.std.proofs.Math.Seq.{map-set_same}
use Rattle.lt_registry.specs.Validity.{Distinct}
use Rattle.lt_rewrite.specs.ExtensionsSettling.{SettlesAt, Settles, placed}
use Rattle.lt_rewrite.proofs.PartForms.{key_total, t_formed, t_shaped, text_total, u_formed, u_shaped, with_parts}
use Rattle.lt_rewrite.proofs.ExtensionForms.{each_rests, extension_step_singleton, extensions_formed}
use Rattle.lt_rewrite.proofs.ExtensionForms.{extensions_step_values, from_normal, to_part}

-- if `form` gives the normal form, steps from each value `a` lead to exactly one normal form
one_form : {A : Type 0} {Step : A → A → Type 0} {form : A → A} → IsFormOf Step form → (a : A) → HasOneForm Step a
one_form {form = form} F a = record { form = form a; normal = form_is_normal F a; only = λ b n. sym (normal_is_form F a b n) }

-- the parts of a `u` extension have exactly one normal form
pub unicode_has_one_form : UnicodeHasOneForm
unicode_has_one_form = record { one = one_form u_formed; shaped = u_shaped }

-- under the conditions C1 to C6 the parts of a `t` extension have exactly one normal form
pub transform_has_one_form : (R : List EntryParts) → IsRegistry R → MeetsCoreConditions R → TransformHasOneForm R
transform_has_one_form R G C = record {
  one = one_form (t_formed R C);
  shaped = t_shaped R (step_shaped R G);
}

-- under the conditions C1 to C6 a list of extensions has exactly one normal form
pub extensions_have_one_form : (R : List EntryParts) → IsRegistry R → MeetsCoreConditions R → ExtensionsHaveOneForm R
extensions_have_one_form R G C = record {
  one = one_form (extensions_formed R G C);
  shaped = extensions_step_values R;
}

-- The normal form of the parts of a `u` extension, from those of its attributes and its keywords.

-- `q` is the normal form of the parts `p` of a `u` extension, if it has the normal form of the attributes, and that of
-- the keywords once each has lost an only type `true`
pub unicode_settles : (p q : UForm) → IsNormalForm (ListStep true text_cmp) p.attributes q.attributes
    → IsNormalForm (ListStep true key_cmp) (map untrue p.keywords) q.keywords → IsNormalForm UnicodeStep p q
unicode_settles p q a k =
    subst (IsNormalForm UnicodeStep p)
    (ap₂ with_parts (normal_is_form (sorting_is_form true text_cmp text_total) p.attributes q.attributes a)
    (normal_is_form (sorting_is_form true key_cmp key_total) (map untrue p.keywords) q.keywords k))
    (form_is_normal u_formed p)

-- if a search gives the index `a` when it is below the length `b`, and else None, then `a` is not below `b` if it gives
-- None
not_found : (a b : ℕ) → cond (ltb a b) (Some a) None ≡ None → b ≤ a
not_found a b h = grind (arith, nat_tests)

-- if no extension with the singleton `n` is found, none has it
pub none_there : (es : List ExtensionParts) (n : ℕ) → position (λ (e : ExtensionParts). e.singleton == n) es ≡ None
    → AllByRecursion (λ (e : ExtensionParts). e.singleton ≢ n) es
none_there es n h =
    let test : ExtensionParts → Bool = λ e. e.singleton == n in
    let past = not_found (position_or_len test es) (length es) h in
    recursion_from_All (λ (e : ExtensionParts). e.singleton ≢ n) es
    (λ k d l. eqb-false (get_or es k d).singleton n (fails_before_first test es k d (omega arith)))

-- if no extension has the singleton `n`, there is none with it to settle (`Settles` of None)
pub none_rest : (R : List EntryParts) (es : List ExtensionParts) (n : ℕ)
    → AllByRecursion (λ (e : ExtensionParts). e.singleton ≢ n) es → Settles R n es None
none_rest R es n = AllByRecursion-weaker (λ (x : ExtensionParts). x.singleton ≢ n) (λ x. x.singleton ≡ n
    → Rests (ExtensionStep R) x) (λ x a q. absurd (a q)) es

-- if no extension with the singleton `n` is found, there is none with it to settle (`Settles` of None)
pub none_settles : (R : List EntryParts) (es : List ExtensionParts) (n : ℕ)
    → position (λ (e : ExtensionParts). e.singleton == n) es ≡ None → Settles R n es None
none_settles R es n h = none_rest R es n (none_there es n h)

-- the index `place` is one of `es`, and the extension `e`, which is there, has the singleton `n`
pub record FoundAt (n : ℕ) (es : List ExtensionParts) (place : ℕ) (e : ExtensionParts) : Type 0 where
  pub within : place < length es
  pub of_singleton : e.singleton ≡ n

-- if the search for the singleton `n` finds an index, the extension there has that singleton
pub found_there : (es : List ExtensionParts) (n place : ℕ) (e : ExtensionParts)
    → position (λ (e : ExtensionParts). e.singleton == n) es ≡ Some place → e ≡ get_or es place e → FoundAt n es place e
found_there es n place e h is =
    let found = position-Some (λ (e : ExtensionParts). e.singleton == n) es place e h in
    record {
      within = found.0;
      of_singleton = ap (λ (x : ExtensionParts). x.singleton) is
          ∙ eqb-true (get_or es place e).singleton n found.1;
    }

-- if the search for the singleton `n` finds the extension `e`, and `f` is its normal form, `SettlesAt` holds of them
pub found_settles : (R : List EntryParts) (n : ℕ) (es : List ExtensionParts) (place : ℕ) (e f : ExtensionParts)
    → position (λ (e : ExtensionParts). e.singleton == n) es ≡ Some place → e ≡ get_or es place e
    → (e.singleton ≡ n → IsNormalForm (ExtensionStep R) e f) → SettlesAt R n es place f
found_settles R n es place e f h is normal =
    let found = found_there es n place e h is in
    record { within = found.within; from = e; there = is; of_singleton = found.of_singleton; normal = normal found.of_singleton }

-- the singleton of an extension
abbrev singleton_of : ExtensionParts → ℕ
singleton_of e = e.singleton

-- if `P` holds of each element, it holds of the element `x` at the index `i`
pub all_index : {A : Type 0} (P : A → Type 0) (xs : List A) (i : ℕ) (x : A) → i < length xs → x ≡ get_or xs i x → AllByRecursion P xs → P x
all_index P xs i x h e a = subst P (sym e) (All-from_recursion P xs a i x h)

-- if each singleton occurs once, `f` is put in the place of `e`, whose singleton is `n`, and `P` holds of `f`, then `P`
-- holds of each extension with the singleton `n`
placed_alone : (P : ExtensionParts → Type 0) (n : ℕ) (es : List ExtensionParts) (i : ℕ) (e f : ExtensionParts)
    → Distinct (map singleton_of es) → i < length es → e ≡ get_or es i e → e.singleton ≡ n → P f
    → AllByRecursion (λ (x : ExtensionParts). x.singleton ≡ n → P x) (set es i f)
placed_alone P n [] i e f d h is s p = absurd (omega arith)
placed_alone P n (x ∷ xs) zero e f d h is s p = (
  λ _. p,
  AllByRecursion-weaker (λ (y : ExtensionParts). y.singleton ≢ x.singleton) (λ y. y.singleton ≡ n → P y)
      (λ y a q. absurd (a (q ∙ sym (ap singleton_of (sym is) ∙ s)))) xs
      (all_unmapped (λ (m : ℕ). m ≢ x.singleton) singleton_of xs d.0),
)
placed_alone P n (x ∷ xs) (suc i) e f d h is s p =
    let other = all_index (λ (y : ExtensionParts). y.singleton ≢ x.singleton) xs i e (omega arith) is
    (all_unmapped (λ (m : ℕ). m ≢ x.singleton) singleton_of xs d.0) in
    (λ q. absurd (other (s ∙ sym q)), placed_alone P n xs i e f d.1 (omega arith) is s p)

-- if each singleton occurs once, and no step leads from the extension with the singleton `n` that is found, there is
-- none with it to settle (`Settles` of None)
pub found_rests : (R : List EntryParts) (n : ℕ) (es : List ExtensionParts) (place : ℕ) (e : ExtensionParts)
    → Distinct (map singleton_of es) → position (λ (e : ExtensionParts). e.singleton == n) es ≡ Some place
    → e ≡ get_or es place e
    → (e.singleton ≡ n → Rests (ExtensionStep R) e) → Settles R n es None
found_rests R n es place e d h is rests =
    let found = found_there es n place e h is in
    subst (AllByRecursion (λ (x : ExtensionParts). x.singleton ≡ n → Rests (ExtensionStep R) x)) (ap (set es place) is
    ∙ set-get_or es place e)
    (placed_alone (Rests (ExtensionStep R)) n es place e e d found.within is found.of_singleton (rests found.of_singleton))

-- steps inside an extension keep its singleton
pub keeps_singleton : (R : List EntryParts) (n : ℕ) (e f : ExtensionParts) → e.singleton ≡ n → Star (ExtensionStep R) e f → f.singleton ≡ n
keeps_singleton R n e f h s = star_keeps (λ (x : ExtensionParts). x.singleton ≡ n) (λ a b t q. extension_step_singleton R a b t ∙ q) s h

-- steps lead from the extensions to those with the normal form, if one is given, in its place (`placed`)
pub placed_reached : (R : List EntryParts) (n : ℕ) (es : List ExtensionParts) (o : Option (ℕ × ExtensionParts))
    → Settles R n es o → Star (ExtensionsStep R) es (placed o es)
placed_reached R n es None s = done
placed_reached R n es (Some p) s =
    let i : ℕ = p.0 in
    subst₂ (Star (ExtensionsStep R)) (sym (round es i s.from s.within s.there)) (sym (set_split es i p.1 s.within))
    (star_map (λ x. take i es ++ x ∷ drop (suc i) es) (λ x y t. inside (take i es) x y (drop (suc i) es) refl refl t) s.normal.reached)

-- with the normal form in its place each singleton occurs once, as before
pub placed_distinct : (R : List EntryParts) (n : ℕ) (es : List ExtensionParts) (o : Option (ℕ × ExtensionParts))
    → Settles R n es o → Distinct (map singleton_of es) → Distinct (map singleton_of (placed o es))
placed_distinct R n es None s d = d
placed_distinct R n es (Some p) s d =
    subst Distinct
    (sym (map-set_same singleton_of es p.0 p.1 s.from
    (keeps_singleton R n s.from p.1 s.of_singleton s.normal.reached ∙ sym s.of_singleton
    ∙ ap singleton_of s.there))) d

-- with the normal form in its place no step leads from an extension of the singleton `n`
pub placed_rests : (R : List EntryParts) (n : ℕ) (es : List ExtensionParts) (o : Option (ℕ × ExtensionParts))
    → Settles R n es o → Distinct (map singleton_of es) → AllByRecursion (λ (x : ExtensionParts). x.singleton ≡ n
    → Rests (ExtensionStep R) x) (placed o es)
placed_rests R n es None s d = s
placed_rests R n es (Some p) s d = placed_alone (Rests (ExtensionStep R)) n es p.0 s.from p.1 d s.within s.there
    s.of_singleton s.normal.at_rest

-- if `P` holds of each extension in the list, and of every extension with the singleton `n`, it holds of each in the
-- list with the normal form in its place
pub placed_keeps : (R : List EntryParts) (P : ExtensionParts → Type 0) (n : ℕ) (es : List ExtensionParts) (o : Option
    (ℕ × ExtensionParts)) → Settles R n es o → ((x : ExtensionParts) → x.singleton ≡ n → P x) → AllByRecursion P es
    → AllByRecursion P (placed o es)
placed_keeps R P n es None s f a = a
placed_keeps R P n es (Some p) s f a =
    recursion_from_All P (set es p.0 p.1)
    (All-set P es p.0 p.1 (f p.1 (keeps_singleton R n s.from p.1 s.of_singleton s.normal.reached))
    (All-from_recursion P es a))

-- with the normal form of one singleton in its place, the extension of another singleton is settled as before
settles_still : (R : List EntryParts) (n m : ℕ) → n ≢ m → (es : List ExtensionParts) (o p : Option (ℕ × ExtensionParts))
    → Settles R n es o → Settles R m es p → Settles R m (placed o es) p
settles_still R n m ne es None p s t = t
settles_still R n m ne es (Some o) None s t = placed_keeps R (λ (x : ExtensionParts). x.singleton ≡ m
    → Rests (ExtensionStep R) x) n es (Some o) s (λ x q r. absurd (ne (sym q ∙ r))) t
settles_still R n m ne es (Some o) (Some p) s t =
    let apart : p.0 ≢ o.0 = λ e.
    let one : s.from ≡ get_or es p.0 t.from = get_or_read es o.0 s.from s.within s.there t.from ∙ ap (λ k. get_or es k t.from) (sym e) in
    ne (sym s.of_singleton ∙ ap singleton_of (one ∙ sym t.there) ∙ t.of_singleton) in
    record {
      within = omega (arith, t.within, length-set es o.0 o.1);
      from = t.from;
      there = t.there ∙ sym (get_or-set_other es o.0 p.0 o.1 t.from apart);
      of_singleton = t.of_singleton;
      normal = t.normal;
    }

-- with the normal forms of the `u` and of the `t` extension in their places, the extensions in order are the normal
-- form of the list
pub extensions_settle : (R : List EntryParts) (es fs : List ExtensionParts) (u t : Option (ℕ × ExtensionParts))
    → Distinct (map singleton_of es) → Settles R unicode es u → Settles R transform es t
    → IsNormalForm (ListStep false singleton_cmp) (placed t (placed u es)) fs → IsNormalForm (ExtensionsStep R) es fs
extensions_settle R es fs u t d su st n =
    from_normal R es fs (parts_settle (ExtensionStep R) false singleton_cmp es (placed t (placed u es)) fs
    (star_map (λ l. l) (to_part R)
    (star_trans (placed_reached R unicode es u su) (placed_reached R transform (placed u es) t still))) all_rest n)
  where
    still : Settles R transform (placed u es) t
    still = settles_still R unicode transform (λ e. absurd (omega (arith, e))) es u t su st

    all_rest : AllByRecursion (Rests (ExtensionStep R)) (placed t (placed u es))
    all_rest =
        all_both (λ (x : ExtensionParts). x.singleton ≡ unicode → Rests (ExtensionStep R) x)
        (λ x. x.singleton ≡ transform → Rests (ExtensionStep R) x) (Rests (ExtensionStep R)) (each_rests R)
        (placed t (placed u es))
        (placed_keeps R (λ (x : ExtensionParts). x.singleton ≡ unicode → Rests (ExtensionStep R) x) transform
        (placed u es) t still (λ x q r. absurd (omega (arith, q, r))) (placed_rests R unicode es u su d))
        (placed_rests R transform (placed u es) t still (placed_distinct R unicode es u su d))

-- if each `t` extension has the form of one, the `t` extension that is found has it
pub form_of_transform : (es : List ExtensionParts) (place : ℕ) (e : ExtensionParts) → FoundAt transform es place e
    → e ≡ get_or es place e → AllByRecursion (λ (x : ExtensionParts). x.singleton ≡ transform → (p : TForm)
    × IsTransform x.subtags p) es → (p : TForm) × IsTransform e.subtags p
form_of_transform es place e found is all = all_index (λ (x : ExtensionParts). x.singleton ≡ transform → (p : TForm)
    × IsTransform x.subtags p) es place e found.within is all found.of_singleton

-- the index of a settled extension is within the list
pub settled_within : (R : List EntryParts) (n : ℕ) (es : List ExtensionParts) (o : Option (ℕ × ExtensionParts))
    → Settles R n es o → IfSome o (λ (p : ℕ × ExtensionParts). p.0 < length es)
settled_within R n es None s = tt
settled_within R n es (Some p) s = s.within
