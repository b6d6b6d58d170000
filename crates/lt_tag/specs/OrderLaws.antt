-- The orders of cores, extensions and tags are total, and tell any two apart: what is equal by them is the same. `Eq`,
-- `Ord` and `Hash` of these types rest on it.
use Rattle.std.proofs.Common.{◌≡◌, ◌↔◌, Bool, true, false, IsTrue, [], Some, None, refl, ap, sym, ◌∙◌, true≢false}
use Rattle.std.specs.Ordering.{ordering_then, is_eq, eq_by_cmp}
use Rattle.std.specs.Option.{option_cmp}
use Rattle.std.specs.Cmp.{IsTotalOrder, Equal-is, tied_itself}
use Rattle.std.specs.Cmp.Lexicographic.{options_total}
use Rattle.std.specs.FinMap.{IsAntisymmetric, nat_cmp-IsAntisymmetric, slice_cmp-IsAntisymmetric}
use Rattle.std.specs.declared.cmp.Ordering.{Ordering}
use Rattle.std.specs.declared.cmp.Ordering.TheVariants.{Less, Equal, Greater}
use Rattle.std.proofs.lemmas.Cmp.{then_total, on_total, nat_cmp_total, nat_list_cmp_total, lists_total}
use Rattle.lt_tag.specs.Parts.{CoreParts, ExtensionParts, LangTag, PrivateUse, Grandfathered}
use Rattle.lt_tag.specs.Values.{core_of, extensions_of, private_of, number_of}
use Rattle.lt_tag.specs.Order.{subtag_cmp, list_cmp, core_cmp, extension_cmp, tag_cmp}

-- the order of cores is total
pub core_total : IsTotalOrder core_cmp
core_total =
    then_total (on_total (λ (c : CoreParts). c.language) nat_list_cmp_total)
    (then_total (on_total (λ (c : CoreParts). c.extlangs) (lists_total nat_list_cmp_total))
    (then_total (on_total (λ (c : CoreParts). c.script) (options_total nat_list_cmp_total))
    (then_total (on_total (λ (c : CoreParts). c.region) (options_total nat_list_cmp_total))
    (on_total (λ (c : CoreParts). c.variants) (lists_total nat_list_cmp_total)))))

-- the order of extensions is total
pub extension_total : IsTotalOrder extension_cmp
extension_total = then_total (on_total (λ (e : ExtensionParts). e.singleton) nat_cmp_total)
    (on_total (λ (e : ExtensionParts). e.subtags) (lists_total nat_list_cmp_total))

-- the order of tags is total
pub tag_total : IsTotalOrder tag_cmp
tag_total =
    then_total (on_total core_of (options_total core_total))
    (then_total (on_total extensions_of (lists_total extension_total))
    (then_total (on_total private_of (lists_total nat_list_cmp_total))
    (on_total number_of (options_total nat_cmp_total))))

-- ---- what a comparison of two parts says of each

-- from false being true anything follows
unequal : {A : Type 0} → false ≡ true → A
unequal e = absurd (true≢false (sym e))

-- what is equal by two orders, one after the other, is equal by the first
then_first : (r s : Ordering) → ordering_then r s ≡ Equal → r ≡ Equal
then_first Less s e = unequal (ap is_eq e)
then_first Equal s e = refl
then_first Greater s e = unequal (ap is_eq e)

-- what is equal by two orders, one after the other, is equal by the second
then_second : (r s : Ordering) → ordering_then r s ≡ Equal → s ≡ Equal
then_second Less s e = unequal (ap is_eq e)
then_second Equal s e = e
then_second Greater s e = unequal (ap is_eq e)

-- an order that tells any two values apart does so also where either may be missing
options_apart : {A : Type 0} {R : A → A → Ordering} → IsAntisymmetric R → IsAntisymmetric (option_cmp R)
options_apart same None None e = refl
options_apart same None (Some y) e = unequal (ap is_eq e)
options_apart same (Some x) None e = unequal (ap is_eq e)
options_apart same (Some x) (Some y) e = ap Some (same x y e)

-- the order of subtags tells any two apart
subtags_apart : IsAntisymmetric subtag_cmp
subtags_apart = slice_cmp-IsAntisymmetric nat_cmp-IsAntisymmetric

-- the order of lists of subtags tells any two apart
lists_apart : IsAntisymmetric list_cmp
lists_apart = slice_cmp-IsAntisymmetric subtags_apart

-- the order of cores tells any two apart
pub cores_apart : IsAntisymmetric core_cmp
cores_apart c d e =
    let after_language = then_second _ _ e in
    let after_extlangs = then_second _ _ after_language in
    let after_script = then_second _ _ after_extlangs in
    let a = subtags_apart c.language d.language (then_first _ _ e) in
    let b = lists_apart c.extlangs d.extlangs (then_first _ _ after_language) in
    let s = options_apart subtags_apart c.script d.script (then_first _ _ after_extlangs) in
    let r = options_apart subtags_apart c.region d.region (then_first _ _ after_script) in
    let v = lists_apart c.variants d.variants (then_second _ _ after_script) in
    λ i. record { language = a i; extlangs = b i; script = s i; region = r i; variants = v i }

-- the order of extensions tells any two apart
pub extensions_apart : IsAntisymmetric extension_cmp
extensions_apart a b e =
    let s = nat_cmp-IsAntisymmetric a.singleton b.singleton (then_first _ _ e) in
    let l = lists_apart a.subtags b.subtags (then_second _ _ e) in
    λ i. record { singleton = s i; subtags = l i }

-- the order of tags tells any two apart
pub tags_apart : IsAntisymmetric tag_cmp
tags_apart (LangTag c es ps) (LangTag d fs qs) e =
    let after_core = then_second _ _ e in
    let a = cores_apart c d (then_first _ _ e) in
    let b = slice_cmp-IsAntisymmetric extensions_apart es fs (then_first _ _ after_core) in
    let p = lists_apart ps qs (then_first _ _ (then_second _ _ after_core)) in
    λ i. LangTag (a i) (b i) (p i)
tags_apart (LangTag c es ps) (PrivateUse qs) e = unequal (ap is_eq e)
tags_apart (LangTag c es ps) (Grandfathered n) e = unequal (ap is_eq e)
tags_apart (PrivateUse ps) (LangTag d fs qs) e = unequal (ap is_eq e)
tags_apart (PrivateUse ps) (PrivateUse qs) e = ap PrivateUse (lists_apart ps qs (then_first (list_cmp ps qs) Equal e))
tags_apart (PrivateUse ps) (Grandfathered n) e =
    let less : Less ≡ Equal = then_second (list_cmp ps []) Less e in unequal (ap is_eq less)
tags_apart (Grandfathered m) (LangTag d fs qs) e = unequal (ap is_eq e)
tags_apart (Grandfathered m) (PrivateUse qs) e =
    let more : Greater ≡ Equal = then_second (list_cmp [] qs) Greater e in unequal (ap is_eq more)
tags_apart (Grandfathered m) (Grandfathered n) e = ap Grandfathered (nat_cmp-IsAntisymmetric m n e)

-- what is equal by an order that tells any two apart is the same
pub the_same : {A : Type 0} {R : A → A → Ordering} → IsAntisymmetric R → (x y : A) → eq_by_cmp R x y ≡ true → x ≡ y
the_same {R = R} apart x y e = apart x y ((Equal-is (R x y)).0 e)

-- The order R is total and tells any two apart. b tells whether x and y are equal by it, and is true exactly if they
-- are the same.
pub same_exactly : {A : Type 0} {R : A → A → Ordering} → IsTotalOrder R
    → IsAntisymmetric R → (x y : A) (b : Bool) → b ≡ eq_by_cmp R x y → IsTrue b ↔ (x ≡ y)
same_exactly {R = R} total apart x y b e = (
  λ t. the_same apart x y (sym e ∙ t),
  λ same. e ∙ ap
      (λ z. eq_by_cmp R x z) (sym same) ∙ ap is_eq (tied_itself total x),
)
