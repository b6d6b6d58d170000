-- Lemmas for `keys_rise`: if a `u` extension has only keywords, their keys rise, and none has a type `true`, no step
-- leads from the extension, so that it is in its normal form as it is.
use Rattle.std.proofs.Common.{◌≡◌, ℕ, ◌<◌, Bool, true, false, not, List, [], ◌∷◌, ◌++◌, Option, Some, None, refl, sym}
use Rattle.std.proofs.Common.{ap, ap₂, ◌∙◌, subst, length, arith, Ordering, Less, Equal, Greater, bytes_eq}
use Rattle.std.specs.Prelude.{codes}
use Rattle.std.specs.List.{list_all, AllByRecursion}
use Rattle.std.specs.Ordering.{ordering_reverse}
use Rattle.std.proofs.lemmas.Bool.{and_parts, and_from}
use Rattle.std.proofs.lemmas.Bool.Decides.{nat_tests}
use Rattle.std.proofs.lemmas.List.{length-append}
use Rattle.lt_subtag.specs.Shapes.{is_key}
use Rattle.lt_tag.specs.Parts.{ExtensionParts, KeywordParts, UForm}
use Rattle.lt_tag.specs.Extensions.{is_long, IsUnicode, unicode}
use Rattle.lt_tag.specs.Values.{IsExtensionValue}
use Rattle.lt_registry.specs.Parts.{EntryParts}
use Rattle.lt_tag.specs.Spelling.{is_extension_subtag}
use Rattle.lt_tag.specs.Splitting.{before, keywords_of}
use Rattle.lt_tag.proofs.PartsLemmas.{u_found}
use Rattle.lt_tag.proofs.TagLemmas.{AllByRecursion-weaker}
use Rattle.lt_rewrite.specs.Rewriting.{done, IsNormalForm, Rests}
use Rattle.lt_rewrite.specs.Orderings.{ListStep, by_swap, by_drop}
use Rattle.lt_rewrite.specs.Extensions.{text_cmp, key_cmp, ExtensionStep, UnicodeStep, on_attributes, on_keywords, on_types}
use Rattle.lt_rewrite.proofs.PartLists.{all_middle}
use Rattle.lt_rewrite.proofs.ExtensionForms.{extension, unicode_settled}
use Rattle.lt_rewrite.proofs.PartForms.{text_total}
use Rattle.lt_rewrite.specs.RisingKeys.{is_above, comes_after, is_type, next_key, keys_rise}

-- whether no subtag is `true`
abbrev pub none_true : List (List ℕ) → Bool
none_true ss = list_all (λ (s : List ℕ). not (bytes_eq s (codes "true"))) ss

-- the key of a keyword comes after the given key, if there is one
abbrev Above : Option (List ℕ) → KeywordParts → Type 0
Above last k = comes_after last k.key ≡ true

-- no type of the keyword is `true`
abbrev HasNoTrue : KeywordParts → Type 0
HasNoTrue k = none_true k.types ≡ true

-- the key of each keyword comes after those before it
abbrev AreRising : List KeywordParts → Type 0
AreRising [] = Unit {0}
AreRising (k ∷ ks) = AllByRecursion (Above (Some k.key)) ks × AreRising ks

-- the subtags `ss`, which follow the key `last`, are its types, and then keywords in the order of their keys, which
-- come after `last`; no type is `true`. Without a last key they have no types in front.
pub record Rise (last : Option (List ℕ)) (ss : List (List ℕ)) : Type 0 where
  pub subtags : list_all is_extension_subtag ss ≡ true
  pub above : AllByRecursion (Above last) (keywords_of ss)
  pub rising : AreRising (keywords_of ss)
  pub none : AllByRecursion HasNoTrue (keywords_of ss)
  pub types : none_true (before is_key ss) ≡ true
  pub first : last ≡ None → before is_key ss ≡ []

-- a key has the form of an extension's subtag (RFC 5646, 2.1)
key_long : (s : List ℕ) → is_key s ≡ true → is_extension_subtag s ≡ true
unfolding is_key is_extension_subtag
key_long s h = grind (arith, nat_tests)

-- a subtag that is long enough for a type has the form of an extension's subtag (RFC 5646, 2.1)
long_long : (s : List ℕ) → is_long s ≡ true → is_extension_subtag s ≡ true
unfolding is_long is_extension_subtag
long_long s h = grind (arith, nat_tests)

-- an order that passes the test `is_above` is Greater
is_greater : (o : Ordering) → is_above o ≡ true → o ≡ Greater
is_greater Less h = cc
is_greater Equal h = cc
is_greater Greater h = refl

-- a key that comes after `s` comes after `last`, if `s` does
above_more : (last : Option (List ℕ)) (s : List ℕ) → comes_after last s ≡ true → (k : KeywordParts) → Above (Some s) k → Above last k
above_more None s h k a = refl
above_more (Some l) s h k a =
    let one : text_cmp s l ≡ Greater = is_greater (text_cmp s l) h in
    let two : text_cmp k.key s ≡ Greater = is_greater (text_cmp k.key s) a in
    let lower : text_cmp l s ≡ Less = text_total.antisymm l s ∙ ap ordering_reverse one in
    let higher : text_cmp s k.key ≡ Less = text_total.antisymm s k.key ∙ ap ordering_reverse two in
    let both : text_cmp l k.key ≡ Less = text_total.trans l s k.key lower higher in
    ap is_above (text_total.antisymm k.key l ∙ ap ordering_reverse both)

-- the keyword of a key and its types
abbrev keyword : List ℕ → List (List ℕ) → KeywordParts
keyword key types = record { key = key; types = types }

-- if `Rise` holds of the subtags after a key `s`, which comes after `last`, it holds with `s` in front
rise_key : (last : Option (List ℕ)) (s : List ℕ) (ss : List (List ℕ)) → is_key s ≡ true → comes_after last s ≡ true
    → Rise (Some s) ss → Rise last (s ∷ ss)
rise_key last s ss key after r =
    let found : keywords_of (s ∷ ss) ≡ keyword s (before is_key ss) ∷ keywords_of ss = rw key refl in
    let none : before is_key (s ∷ ss) ≡ [] = rw key refl in
    record {
      subtags = and_from _ _ (key_long s key) r.subtags;
      above = rw found (after, AllByRecursion-weaker (Above (Some s)) (Above last) (above_more last s after) (keywords_of ss) r.above);
      rising = rw found (r.above, r.rising);
      none = rw found (r.types, r.none);
      types = rw none refl;
      first = λ e. none;
    }

-- if `Rise` holds of the subtags after a type `s` of the key `last`, other than `true`, it holds with `s` in front
rise_type : (last : List ℕ) (s : List ℕ) (ss : List (List ℕ)) → is_key s ≡ false → is_long s ≡ true
    → not (bytes_eq s (codes "true")) ≡ true → Rise (Some last) ss → Rise (Some last) (s ∷ ss)
rise_type last s ss key long other r =
    let found : keywords_of (s ∷ ss) ≡ keywords_of ss = rw key refl in
    let more : before is_key (s ∷ ss) ≡ s ∷ before is_key ss = rw key refl in
    record {
      subtags = and_from _ _ (long_long s long) r.subtags;
      above = rw found r.above;
      rising = rw found r.rising;
      none = rw found r.none;
      types = rw more (and_from _ _ other r.types);
      first = λ e. cc;
    }

-- if the keys of `s` and `ss` rise, there is a last key `k` once `s` is read, and from it on the keys of `ss` rise
next_some : (last : Option (List ℕ)) (s : List ℕ) (ss : List (List ℕ)) → keys_rise last (s ∷ ss) ≡ true → (k : List ℕ)
    × (next_key last s ≡ Some k) × (keys_rise (Some k) ss ≡ true)
next_some last s ss h = go (next_key last s) refl
  where
    go : (o : Option (List ℕ)) → next_key last s ≡ o → (k : List ℕ) × (next_key last s ≡ Some k) × (keys_rise (Some k) ss ≡ true)
    go None e = let bad : false ≡ true = rw e at h in cc
    go (Some k) e = (k, e, rw e at h)

-- subtags that pass the test `keys_rise` are as `Rise` says
pub rise : (last : Option (List ℕ)) (ss : List (List ℕ)) → keys_rise last ss ≡ true → Rise last ss
rise last [] h = record { subtags = refl; above = tt; rising = tt; none = tt; types = refl; first = λ e. refl }
rise last (s ∷ ss) h =
    let n = next_some last s ss h in
    by_key (is_key s) refl n.0 n.1 (rise (Some n.0) ss n.2)
  where
    by_type : (o : Option (List ℕ)) → last ≡ o → is_key s ≡ false → (b : Bool) → is_type s ≡ b → (k : List ℕ)
        → next_key last s ≡ Some k → Rise (Some k) ss → Rise last (s ∷ ss)
    by_type o e key false b k n r = let bad : None ≡ Some k = rw (key, b) at n in cc
    by_type None e key true b k n r = let bad : None ≡ Some k = rw (key, b, e) at n in cc
    by_type (Some l) e key true b k n r =
        let both = and_parts (is_long s) _ b in
        let same : Some l ≡ Some k = rw (key, b, e) at n in
        let one : k ≡ l = cc in
        subst (λ (x : Option (List ℕ)). Rise x (s ∷ ss)) (sym e)
        (rise_type l s ss key both.0 both.1 (subst (λ (x : List ℕ). Rise (Some x) ss) one r))

    by_after : is_key s ≡ true → (b : Bool) → comes_after last s ≡ b → (k : List ℕ) → next_key last s ≡ Some k
        → Rise (Some k) ss → Rise last (s ∷ ss)
    by_after key false a k n r = let bad : None ≡ Some k = rw (key, a) at n in cc
    by_after key true a k n r =
        let same : Some s ≡ Some k = rw (key, a) at n in
        let one : k ≡ s = cc in
        rise_key last s ss key a (subst (λ (x : List ℕ). Rise (Some x) ss) one r)

    by_key : (b : Bool) → is_key s ≡ b → (k : List ℕ) → next_key last s ≡ Some k → Rise (Some k) ss → Rise last (s ∷ ss)
    by_key true key k n r = by_after key (comes_after last s) refl k n r
    by_key false key k n r = by_type last refl key (is_type s) refl k n r

-- the parts of a `u` extension's subtags: the attributes before the first key, and the keywords
abbrev pub parts : List (List ℕ) → UForm
parts ss = record { attributes = before is_key ss; keywords = keywords_of ss }

-- at least one subtag, with keys that rise from the start, has the parts that `parts` gives
pub parts_found : (ss : List (List ℕ)) → Rise None ss → 0 < length ss → IsUnicode ss (parts ss)
parts_found ss r some = u_found ss (parts ss) r.subtags some refl refl

-- if the keys of keywords rise, so do those of the last ones, `ks`
rising_rest : (before ks : List KeywordParts) → AreRising (before ++ ks) → AreRising ks
rising_rest [] ks h = h
rising_rest (b ∷ bs) ks h = rising_rest bs ks h.1

-- no step leads from keywords whose keys rise
keys_rest : (ks : List KeywordParts) → AreRising ks → Rests (ListStep true key_cmp) ks
keys_rest ks h ls (by_swap before a b after s) =
    let above = (rising_rest before (a ∷ b ∷ after) (subst AreRising s.there h)).0.0 in
    let bad : false ≡ true = ap is_above (sym s.falling) ∙ above in
    cc
keys_rest ks h ls (by_drop before a between b after o s) =
    let rest = rising_rest before (a ∷ (between ++ b ∷ after)) (subst AreRising s.there h) in
    let above = all_middle (Above (Some a.key)) between b after rest.0 in
    let bad : false ≡ true = ap is_above (sym s.alike) ∙ above in
    cc

-- no step leads from attributes if there are none
none_moves : (as' : List (List ℕ)) → as' ≡ [] → Rests (ListStep true text_cmp) as'
none_moves as' e bs (by_swap before a b after s) = omega (arith, ap length (sym e ∙ s.there), length-append before (a ∷ b ∷ after))
none_moves as' e bs (by_drop before a between b after o s) = omega (
  arith,
  ap length (sym e ∙ s.there),
  length-append before (a ∷ (between ++ b ∷ after)),
)

-- the parts of subtags whose keys rise are their own normal form
pub parts_rest : (ss : List (List ℕ)) → Rise None ss → IsNormalForm UnicodeStep (parts ss) (parts ss)
parts_rest ss r = record { reached = done; at_rest = rests }
  where
    rests : Rests UnicodeStep (parts ss)
    rests q (on_attributes s h) = none_moves (before is_key ss) (r.first refl) q.attributes s
    rests q (on_keywords h s) = keys_rest (keywords_of ss) r.rising q.keywords s
    rests q (on_types h before k after s) =
        let none = all_middle HasNoTrue before k after (subst (AllByRecursion HasNoTrue) s.there r.none) in
        let bad : false ≡ true = ap none_true (sym s.sole) ∙ none in
        cc

-- no step leads from a `u` extension whose keys rise
pub unicode_rests : (R : List EntryParts) (e : ExtensionParts) → IsExtensionValue e → keys_rise None e.subtags ≡ true
    → e.singleton ≡ unicode → Rests (ExtensionStep R) e
unicode_rests R e v h u =
    let r = rise None e.subtags h in
    let found = parts_found e.subtags r v.shaped.some in
    subst (Rests (ExtensionStep R)) (ap₂ extension (sym u) found.spelled)
    (unicode_settled R e (parts e.subtags) (parts e.subtags) u found (parts_rest e.subtags r)).at_rest
