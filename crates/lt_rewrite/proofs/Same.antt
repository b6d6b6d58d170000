-- Tags that pass the test `same_tag` are equal. The tests of their parts, such as `same_core`, tell whether two parts
-- are equal.
use Rattle.std.proofs.Common.{◌≡◌, ℕ, true, List, Option, Some, None, refl, ap, bytes_eq}
use Rattle.std.specs.Bool.{Decides}
use Rattle.std.specs.Cmp.Lexicographic.{pointwise}
use Rattle.std.proofs.lemmas.Slice.Eq.{bytes_eq-Decides, slice_eq-Decides}
use Rattle.std.proofs.lemmas.Bool.{eqb-true}
use Rattle.std.proofs.lemmas.Bool.Decides.{Decides-like, Decides-and, Decides-eqb}
use Rattle.std.specs.Option.{option_eq}
use Rattle.lt_tag.specs.Parts.{CoreParts, ExtensionParts, TagForm, LangTag, PrivateUse, Grandfathered}
use Rattle.lt_registry.specs.Same.{same_core, same_extension, same_tag}

-- the test of two lists of subtags tells whether they are equal
same_list-Decides : (xs ys : List (List ℕ)) → Decides (pointwise bytes_eq xs ys) (xs ≡ ys)
same_list-Decides xs ys = slice_eq-Decides bytes_eq-Decides xs ys (pointwise bytes_eq xs ys) refl

-- the test of two optional subtags tells whether they are equal
same_option-Decides : (a b : Option (List ℕ)) → Decides (option_eq bytes_eq a b) (a ≡ b)
same_option-Decides None None = ((λ _. refl), (λ _. refl))
same_option-Decides (Some a) (Some b) = ((λ h. ap Some ((bytes_eq-Decides a b).0 h)), (λ e. (bytes_eq-Decides a b).1 (cc)))
same_option-Decides s t = ((λ h. cc), (λ e. cc))

-- the test of two cores tells whether they are equal
pub same_core-Decides : (c d : CoreParts) → Decides (same_core c d) (c ≡ d)
same_core-Decides c d =
    Decides-like (same_core c d)
    (λ p i. record { language = p.0 i; extlangs = p.1.0 i; script = p.1.1.0 i; region = p.1.1.1.0 i; variants = p.1.1.1.1 i })
    (λ e. (
      ap (λ (x : CoreParts). x.language) e,
      (
        ap (λ (x : CoreParts). x.extlangs) e,
        (
          ap (λ (x : CoreParts). x.script) e,
          (ap (λ (x : CoreParts). x.region) e, ap (λ (x : CoreParts). x.variants) e),
        ),
      ),
    ))
    (Decides-and _ _ (bytes_eq-Decides c.language d.language) (Decides-and _ _ (same_list-Decides c.extlangs d.extlangs)
    (Decides-and _ _ (same_option-Decides c.script d.script)
    (Decides-and _ _ (same_option-Decides c.region d.region) (same_list-Decides c.variants d.variants)))))

-- the test of two extensions tells whether they are equal
same_extension-Decides : (a b : ExtensionParts) → Decides (same_extension a b) (a ≡ b)
same_extension-Decides a b =
    Decides-like (same_extension a b) (λ p i. record { singleton = p.0 i; subtags = p.1 i })
    (λ e. (ap (λ (x : ExtensionParts). x.singleton) e, ap (λ (x : ExtensionParts). x.subtags) e))
    (Decides-and _ _ (Decides-eqb a.singleton b.singleton) (same_list-Decides a.subtags b.subtags))

-- tags that pass the test `same_tag` are equal
pub same_tag_is : (t u : TagForm) → same_tag t u ≡ true → t ≡ u
same_tag_is (LangTag c es ps) (LangTag d fs qs) h =
    let p = (Decides-and _ _ (same_core-Decides c d)
    (Decides-and _ _ (slice_eq-Decides same_extension-Decides es fs (pointwise same_extension es fs) refl)
    (same_list-Decides ps qs))).0 h in
    λ i. LangTag (p.0 i) (p.1.0 i) (p.1.1 i)
same_tag_is (PrivateUse ps) (PrivateUse qs) h = ap PrivateUse ((same_list-Decides ps qs).0 h)
same_tag_is (Grandfathered m) (Grandfathered n) h = ap Grandfathered (eqb-true m n h)
same_tag_is s t h = cc
