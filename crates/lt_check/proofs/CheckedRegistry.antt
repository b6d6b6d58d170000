-- In a registry that passes the check, a value that is found for a whole tag is that of a record with this tag as its
-- name, and it is a valid langtag and a core alone, without extensions and private use.
use Rattle.std.proofs.Common.{◌≡◌, ℕ, ◌⊎◌, inl, inr, true, List, Some, None, refl, sym, ap, ◌∙◌, subst, All, arith}
use Rattle.std.proofs.lemmas.Option.{option_and_then_some}
use Rattle.lt_tag.specs.Parts.{TagForm, Grandfathered}
use Rattle.lt_registry.specs.Parts.{EntryParts}
use Rattle.lt_registry.specs.Entries.{FitsName, IsEntry, is_whole_kind, is_whole, tag_of, whole, whole_value}
use Rattle.lt_registry.specs.declared.entries.Kind.{Kind}
use Rattle.lt_registry.specs.declared.entries.Kind.TheVariants as kinds
use Rattle.lt_registry.specs.declared.entries.EntryName.{EntryName}
use Rattle.lt_registry.specs.declared.entries.EntryName.TheVariants as names
use Rattle.lt_rewrite.specs.Conditions.{HasFittingGrandfathered}
use Rattle.lt_rewrite.proofs.Entries.{find_has}
use Rattle.lt_rewrite.proofs.Same.{same_tag_is}
use Rattle.lt_check.specs.Conditions.{IsValidCoreAlone, HasValidWhole, IsChecked}

-- each record of a checked registry meets the condition on grandfathered tags (C8)
pub grandfathered_fit : (R : List EntryParts) → IsChecked R → All (HasFittingGrandfathered R) R
grandfathered_fit R C = C.passes.fitting_grandfathered

-- the whole record of the tag `t`, which has the value `u`
pub record ValuedWhole (R : List EntryParts) (t u : TagForm) : Type 0 where
  pub at : EntryParts
  pub found : whole R t ≡ Some at
  pub named : at.name ≡ names.Whole t
  pub gives : tag_of at.value ≡ Some u

-- if the test `is_whole` takes a name for the tag `t`, it is the name of `t`
pub whole_name : (t : TagForm) (n : EntryName) → is_whole t n ≡ true → n ≡ names.Whole t
whole_name t (names.Single s) h = cc
whole_name t (names.Range a b) h = cc
whole_name t (names.Whole u) h = ap names.Whole (same_tag_is u t h)

-- the record that a look-up of a whole tag finds has that tag as its name
pub found_name : (R : List EntryParts) (t : TagForm) (e : EntryParts) → whole R t ≡ Some e → e.name ≡ names.Whole t
found_name R t e h = whole_name t e.name
    (find_has (λ (e : EntryParts). Unit {0}) (λ (e : EntryParts). is_whole t e.name) R e (λ k d n. tt) h).1

-- where the value `u` is found for a tag, there is a whole record of the tag with this value
pub valued_whole : (R : List EntryParts) (t u : TagForm) → whole_value R t ≡ Some u → ValuedWhole R t u
valued_whole R t u e =
    option_and_then_some (λ (e : EntryParts). tag_of e.value) (whole R t) u e
    (λ f o g. record { at = f; found = o; named = found_name R t f o; gives = g })

-- what is true of each record is true of the whole record `w` behind a value
pub whole_has : (R : List EntryParts) (t u : TagForm) (P : EntryParts → Type 0) → All P R → (w : ValuedWhole R t u) → P w.at
whole_has R t u P h w = (find_has P (λ (e : EntryParts). is_whole t e.name) R w.at h w.found).0

-- where no record of a tag has a value, none is found for it
pub no_value : (R : List EntryParts) (t : TagForm)
    → All (λ (e : EntryParts). e.name ≡ names.Whole t → tag_of e.value ≡ None) R → whole_value R t ≡ None
no_value R t h =
    let never : (u : TagForm) → whole_value R t ≡ Some u → ⊥ = λ u e. (
    let w = valued_whole R t u e in
    let none = whole_has R t u (λ (f : EntryParts). f.name ≡ names.Whole t → tag_of f.value ≡ None) h w w.named in
    let some = w.gives in
    cc) in
    grind arith

-- the tag is the grandfathered one of this number
pub record IsGrandfatheredTag (t : TagForm) : Type 0 where
  pub number : ℕ
  pub is : t ≡ Grandfathered number

-- a record of a whole tag is a grandfathered or a redundant one
pub whole_kind : (k : Kind) → is_whole_kind k ≡ true → (k ≡ kinds.Grandfathered) ⊎ (k ≡ kinds.Redundant)
whole_kind kinds.Grandfathered h = inl refl
whole_kind kinds.Redundant h = inr refl
whole_kind _ h = cc

module _ (R : List EntryParts) (C : IsChecked R) where
  -- the value of a whole tag is a valid langtag and a core alone
  pub value_plain : (t u : TagForm) → whole_value R t ≡ Some u → IsValidCoreAlone R u
  value_plain t u e =
      let w = valued_whole R t u e in
      (whole_has R t u (HasValidWhole R) (C.passes.valid_whole) w t u w.named w.gives).0

  -- a whole tag with a value is grandfathered, or itself a valid langtag and a core alone
  pub tag_plain : (t u : TagForm) → whole_value R t ≡ Some u → IsGrandfatheredTag t ⊎ IsValidCoreAlone R t
  tag_plain t u e =
      let w = valued_whole R t u e in
      let form : IsEntry w.at = whole_has R t u IsEntry C.registry.forms w in
      let fits = subst (λ n. FitsName w.at.kind n) w.named form.name in
      elim (whole_kind w.at.kind fits.0) [
        | inl k ↦ (
            let g = (whole_has R t u (HasFittingGrandfathered R) (grandfathered_fit R C) w).named k in
            let same : names.Whole t ≡ names.Whole (Grandfathered g.0) = sym w.named ∙ g.1 in
            inl (record { number = g.0; is = cc }))
        | inr k ↦ inr ((whole_has R t u (HasValidWhole R) (C.passes.valid_whole) w t u w.named w.gives).1 k)
      ]
