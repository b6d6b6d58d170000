-- What the tests of C9 to C11 need: what holds of whole records if all records meet the conditions that are judged
-- before, and that what the tests compute decides the condition.
use Rattle.std.proofs.Common.{◌≡◌, ◌<◌, inl, inr, List, Some, None, refl, sym, ap, ◌∙◌, subst, arith, ◌≢◌, Bool, true}
use Rattle.std.proofs.Common.{false, not, Bor, is_some, [], ◌∷◌, Option, Result, Ok, Err, is_ok, OnOk, IfErr, length}
use Rattle.std.specs.Prelude.{Contains, slice_index_or}
use Rattle.std.specs.Option.{option_and_then, option_copied}
use Rattle.std.proofs.lemmas.List.Elements.{All-contains, All-contains_itself}
use Rattle.lt_tag.specs.Parts.{CoreParts, TagForm, Grandfathered}
use Rattle.lt_tag.specs.Spelling.{spell_core, IsCore}
use Rattle.lt_tag.specs.WellFormed.{IsNotGrandfathered}
use Rattle.lt_registry.specs.Parts.{EntryParts}
use Rattle.lt_registry.specs.Entries.{IsEntry, FitsName, is_whole, tag_of, whole_value, IsRegistry}
use Rattle.lt_registry.specs.Validity.{IsProperCore, HasProperParts, Distinct}
use Rattle.lt_registry.specs.declared.entries.EntryName.TheVariants as names
use Rattle.lt_rewrite.specs.Rewriting.{Star}
use Rattle.lt_rewrite.specs.CoreSteps.{CoreStep, IsCoreNormalForm}
use Rattle.lt_rewrite.specs.Conditions.{HasFittingGrandfathered, MeetsCoreConditions}
use Rattle.lt_rewrite.proofs.CoreForms.{one_normal_form}
use Rattle.lt_rewrite.proofs.Entries.{find_has}
use Rattle.lt_rewrite.proofs.NormalForms.{star_keeps}
use Rattle.lt_rewrite.proofs.ProperTags.{step_proper, proper_not_grandfathered}
use Rattle.lt_check.specs.Conditions.{IsValidCoreAlone, HasValidWhole, OfWhole}
use Rattle.lt_check.specs.WholeChecks.{MeetsBelow, HasNoValue, RestsAlone, ComesTo, Agrees}
use Rattle.lt_check.specs.declared.conditions.Condition.TheVariants as conditions
use Rattle.lt_check.proofs.CheckedRegistry.{valued_whole, whole_has, found_name, whole_kind, no_value}
use Rattle.lt_check.proofs.Deciding.{same_tag_itself}
use Rattle.lt_check.proofs.FirstFaults.{one_numbered}
use Rattle.lt_check.proofs.OwnNames.{least}
use Rattle.std.proofs.lemmas.List.{get_or_default, length-append}
use Rattle.lt_tag.specs.Values.{core_alone, IsTagValue, extensions_of}
use Rattle.std.specs.Bool.{Decides}
use Rattle.std.proofs.lemmas.Bool.{not-true, not-false}
use Rattle.std.proofs.lemmas.Bool.Decides.{Decides-like}
use Rattle.std.specs.Ordering.{eq_by_cmp}
use Rattle.lt_tag.specs.Order.{core_cmp}
use Rattle.lt_tag.specs.OrderLaws.{core_total, cores_apart, same_exactly}
use Rattle.lt_registry.specs.Faults.{HasNoFault, HasTransform, IsRefusal}
use Rattle.lt_registry.specs.declared.faults.ValidRefusal.{ValidRefusal}
use Rattle.lt_registry.specs.declared.faults.ValidRefusal.TheVariants as refusals
use Rattle.lt_registry.proofs.ValidityLaws.{valid_law}

-- where C1 to C9 are met, C1 to C6 are, on which core steps rest
pub core_below : (R : List EntryParts) → MeetsBelow 10 R → MeetsCoreConditions R
core_below R M = record {
  names = M conditions.OwnName (omega arith);
  values = M conditions.RegisteredValue (omega arith);
  chains = M conditions.EndingChain (omega arith);
  extlangs = M conditions.FittingExtlang (omega arith);
  variants = M conditions.FittingVariantValue (omega arith);
  variant_languages = M conditions.FinalPrefixes (omega arith);
}

-- where C1 to C9 are met, a core has at most one core normal form
pub one_form : (R : List EntryParts) → MeetsBelow 10 R → (c a b : CoreParts) → IsCoreNormalForm R c a → IsCoreNormalForm R c b → a ≡ b
one_form R M c a b x y = let o = one_normal_form R (core_below R M) c in o.1.alone a x ∙ sym (o.1.alone b y)

-- no core that steps reach from a proper core spells a grandfathered tag
pub form_spells_none : (R : List EntryParts) → MeetsBelow 10 R → (c d : CoreParts) → IsProperCore R c
    → Star (CoreStep R) c d → IsCore d → IsNotGrandfathered (spell_core d)
form_spells_none R M c d P s shaped =
    proper_not_grandfathered R (M conditions.FittingGrandfathered (omega arith)) d shaped
    (star_keeps (IsProperCore R) (λ a b one k. step_proper R (core_below R M) a b k one) s P)

-- the core of a valid tag that is a core alone is proper
plain_proper : (R : List EntryParts) (t : TagForm) (c : CoreParts) → t ≡ core_alone c → IsValidCoreAlone R t → IsProperCore R c
plain_proper R t c e V = let parts : HasProperParts R (core_alone c) = subst (HasProperParts R) e V.valid.proper.parts in parts.core

-- the value of a whole record, where it is a core alone, is proper
pub value_proper : (R : List EntryParts) → MeetsBelow 10 R → (e : EntryParts) → Contains R e → (t u : TagForm)
    → e.name ≡ names.Whole t → tag_of e.value ≡ Some u → (c : CoreParts) → u ≡ core_alone c → IsProperCore R c
value_proper R M e there t u n v c p =
    plain_proper R u c p (All-contains (HasValidWhole R) R e (M conditions.ValidWhole (omega arith)) there t u n v).0

-- the tag of a whole record with a value is proper, where it is a core alone
pub tag_proper : (R : List EntryParts) → MeetsBelow 10 R → IsRegistry R → (e : EntryParts) → Contains R e
    → (t u : TagForm) → e.name ≡ names.Whole t → tag_of e.value ≡ Some u → (c : CoreParts) → t ≡ core_alone c
    → IsProperCore R c
tag_proper R M I e there t u n v c p =
    let form : IsEntry e = All-contains IsEntry R e I.forms there in
    let fits = subst (λ m. FitsName e.kind m) n form.name in
    elim (whole_kind e.kind fits.0) [
      | inl k ↦ (
          let g = (All-contains (HasFittingGrandfathered R) R e (M conditions.FittingGrandfathered (omega arith)) there).named k in
          let same : names.Whole (core_alone c) ≡ names.Whole (Grandfathered g.0) = ap names.Whole (sym p) ∙ sym n ∙ g.1 in
          absurd (cc))
      | inr k ↦ plain_proper R t c p ((All-contains (HasValidWhole R) R e (M conditions.ValidWhole (omega arith)) there t u n v).1 k)
    ]

-- a value that is found for a tag is proper
pub found_proper : (R : List EntryParts) → MeetsBelow 10 R → (t : TagForm) (q : CoreParts)
    → whole_value R t ≡ Some (core_alone q) → IsProperCore R q
found_proper R M t q e =
    let w = valued_whole R t (core_alone q) e in
    plain_proper R (core_alone q) q refl
    (whole_has R t (core_alone q) (HasValidWhole R) (M conditions.ValidWhole (omega arith)) w t (core_alone q)
    w.named w.gives).0

-- where no value is found for a tag, no record of the tag has one: only one record has this name
pub none_has_value : (R : List EntryParts) → MeetsBelow 10 R → IsRegistry R → (t : TagForm) → whole_value R t ≡ None → HasNoValue R t
none_has_value R M I t v k d lt n =
    let g : EntryParts = slice_index_or R k d in
    let at = get_or_default R k g d lt in
    let l = least (λ (f : EntryParts). is_whole t f.name) R I.rising g k lt at (ap (is_whole t) n ∙ same_tag_itself t) in
    let there = (find_has (Contains R) (λ (f : EntryParts). is_whole t f.name) R l.0 (All-contains_itself R) l.1).0 in
    let own : l.0.number < g.number → ⊥ = λ low. M conditions.OwnName (omega arith) k d lt l.0 there low
    (inr (t, found_name R t l.0 l.1, n)) in
    let same = one_numbered R I.rising l.0 g there (k, lt, at) (omega (arith, l.2, own)) in
    let none : option_and_then (λ (e : EntryParts). tag_of e.value) (Some l.0) ≡ None =
    ap (option_and_then (λ (e : EntryParts). tag_of e.value)) (sym l.1) ∙ v in
    ap (λ (e : EntryParts). tag_of e.value) (sym same) ∙ none

-- ---- what the calls on whole records find

-- a tag without extensions has no `t` extension, for which `validate` takes memory
none_transforms : HasTransform [] → ⊥
none_transforms h = omega (arith, ap length h.3, length-append h.0 (h.1 ∷ h.2))

-- `r` is what `validate` gives for a tag of the core `c` alone: it is valid exactly if `r` is no refusal
pub plain_verdict : (R : List EntryParts) (t : TagForm) (c : CoreParts) → t ≡ core_alone c → IsTagValue t
    → (r : Result (Unit {0}) ValidRefusal) → OnOk r (HasNoFault R t) → IfErr r (IsRefusal R t)
    → Decides (is_ok r) (IsValidCoreAlone R t)
plain_verdict R t c e V (Ok u) ok err = ((λ h. record { core = c; is = e; valid = (valid_law R t V).1 ok }), (λ k. refl))
plain_verdict R t c e V (Err (refusals.Fault f)) ok err = ((λ h. cc), (λ k. absurd ((valid_law R t V).0 k.valid f.kind f.place err.there)))
plain_verdict R t c e V (Err refusals.OutOfMemory) ok err = absurd (none_transforms (subst HasTransform (ap extensions_of e) err))

-- `b` tells that the value `u` of a whole record is not valid: so the record does not meet C9
pub invalid_whole : (R : List EntryParts) (e : EntryParts) (t u : TagForm) → e.name ≡ names.Whole t
    → tag_of e.value ≡ Some u → (b : Bool) → Decides b (IsValidCoreAlone R u) → b ≡ false
    → Decides b (HasValidWhole R e)
invalid_whole R e t u n v b d f = ((λ h. absurd (let k : true ≡ false = sym h ∙ f in cc)), (λ w. d.1 (w t u n v).0))

-- `o` is the value that is found for a core that repeats no variant, and `b` whether there is none: it tells whether
-- the core rests (`RestsAlone`)
pub rest_verdict : (R : List EntryParts) → MeetsBelow 10 R → IsRegistry R → (c : CoreParts) → Distinct c.variants
    → (o : Option (Bor TagForm)) → option_copied o ≡ whole_value R (core_alone c) → (b : Bool) → is_some o ≡ not b
    → Decides b (RestsAlone R c)
rest_verdict R M I c D None w b n = ((λ h. (D, none_has_value R M I (core_alone c) (sym w))), (λ k. not-false b (sym n)))
rest_verdict R M I c D (Some u) w b n = (
  (λ h. let f = not-true b (sym n) in cc),
  (λ k. let none : whole_value R (core_alone c) ≡ None = no_value R (core_alone c) k.1 in let f = w ∙ none in cc),
)

-- comparison decides whether two cores are equal
pub same_verdict : (c d : CoreParts) (b : Bool) → b ≡ eq_by_cmp core_cmp c d → Decides b (c ≡ d)
same_verdict = same_exactly core_total cores_apart

-- where comparison says that two cores are not equal, they are not
pub differ : (c d : CoreParts) (b : Bool) → b ≡ eq_by_cmp core_cmp c d → b ≡ false → c ≢ d
differ c d b e f k = let t : b ≡ true = (same_verdict c d b e).1 k in cc

-- `form` is the core normal form of the tag's core `c`: if `b` tells whether `form` is `c` or comes to `end`, it tells
-- whether the tag agrees with `end`
pub at_form : (R : List EntryParts) → MeetsBelow 10 R → (t : TagForm) (c form end : CoreParts) → t ≡ core_alone c
    → IsCoreNormalForm R c form → (b : Bool) → Decides b (form ≢ c → ComesTo R form end) → Decides b (Agrees R t end)
at_form R M t c form end e n b d =
    Decides-like b
    (λ f a s x m moved.
    let core : c ≡ a = cc in
    let same = one_form R M a form s (subst (λ (z : CoreParts). IsCoreNormalForm R z form) core n) m in
    subst (λ (z : CoreParts). ComesTo R z end) same (f (λ k. moved (sym same ∙ k ∙ core))))
    (λ h moved. h c form e n moved)
    d

-- `form` is neither `c` nor `end` and has the value `q`, whose core normal form is `r`: it comes to `end` exactly if
-- `r` is `end`
pub by_value : (R : List EntryParts) → MeetsBelow 10 R → (c form end q r : CoreParts) → form ≢ c → form ≢ end
    → whole_value R (core_alone form) ≡ Some (core_alone q) → IsCoreNormalForm R q r → (b : Bool) → Decides b (r ≡ end)
    → Decides b (form ≢ c → ComesTo R form end)
by_value R M c form end q r moved apart w m b d =
    Decides-like b
    (λ e k. inr (q, w, subst (IsCoreNormalForm R q) e m))
    (λ t. elim (t moved) [
      | inl e ↦ absurd (apart e)
      | inr v ↦ (
          let found : Some (core_alone q) ≡ Some (core_alone v.0) = sym w ∙ v.1 in
          let same : q ≡ v.0 = cc in
          one_form R M q r end m (subst (λ (z : CoreParts). IsCoreNormalForm R z end) (sym same) v.2))
    ])
    d

-- a whole record's value is the core `p` alone, with the core normal form `end`: what `P` says of the record is decided
-- by what it says of its tag and `end`
pub at_end : (R : List EntryParts) → MeetsBelow 10 R → (e : EntryParts) (t u : TagForm) (p end : CoreParts)
    → e.name ≡ names.Whole t → tag_of e.value ≡ Some u → u ≡ core_alone p → IsCoreNormalForm R p end
    → (P : TagForm → CoreParts → Type 0) (b : Bool) → Decides b (P t end)
    → Decides b (OfWhole e (λ t u. (p d : CoreParts) → u ≡ core_alone p → IsCoreNormalForm R p d → P t d))
at_end R M e t u p end n v up k P b d =
    Decides-like b
    (λ f x y m w z q yz l.
    let tag : t ≡ x = cc in
    let core : z ≡ p = cc in
    subst (λ (a : TagForm). P a q) tag (subst (P t) (one_form R M p end q k (subst (λ (z : CoreParts). IsCoreNormalForm R z q) core l)) f))
    (λ h. h t u n v p end up k)
    d
