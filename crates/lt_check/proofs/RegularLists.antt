-- What C8 needs: the regular grandfathered tags of two subtags are the only grandfathered tags that can be valid as
-- cores. So the numbers of the records that make these valid decide C8.
use Rattle.std.proofs.Common.{◌≡◌, ℕ, ◌-◌, inl, inr, Bool, true, false, ◌||◌, List, [], ◌∷◌, Some, refl, sym, ap, ◌∙◌}
use Rattle.std.proofs.Common.{codes, arith, ◌==◌, not, Option, None, subst}
use Rattle.std.specs.Prelude.{slice_index_or, Contains}
use Rattle.std.specs.List.{AllByRecursion, list_all, list_any}
use Rattle.std.proofs.lemmas.Bool.{or_cases}
use Rattle.lt_subtag.specs.Bytes.{is_subtag}
use Rattle.lt_subtag.specs.Shapes.{is_language, is_extlang, is_script, is_region, is_variant}
use Rattle.lt_tag.specs.Parts.{CoreParts, Grandfathered}
use Rattle.lt_tag.specs.Lists.{pieces}
use Rattle.lt_tag.specs.Grandfathered.{grandfathered_texts, grandfathered_list, IsGrandfathered}
use Rattle.lt_tag.specs.Growth.{grown, grown_by}
use Rattle.lt_tag.specs.Spelling.{spell_core, IsCore}
use Rattle.lt_tag.specs.Splitting.{core_of_list}
use Rattle.lt_tag.proofs.TagLemmas.{list_all-at, table_length}
use Rattle.lt_tag.proofs.PartsLaws.{core_decided}
use Rattle.lt_registry.specs.Parts.{EntryParts}
use Rattle.lt_registry.specs.Same.{same_core}
use Rattle.lt_registry.specs.Validity.{ExtlangsFit, IsProperCore, Distinct}
use Rattle.lt_rewrite.specs.Conditions.{second_entry, HasFittingGrandfathered}
use Rattle.lt_rewrite.proofs.Same.{same_core-Decides}
use Rattle.lt_check.specs.RegularTags.{with_extlang, with_variant, regular_cores, Validates, IsValidatedBy, AreValidatedBy, is_number}
use Rattle.std.specs.Option.{option_map_or}
use Rattle.std.proofs.lemmas.List.Elements.{All-contains, All-from_recursion, All-contains_itself}
use Rattle.std.proofs.lemmas.Map.Views.{Contains-from_any}
use Rattle.std.specs.Bool.{Decides}
use Rattle.std.proofs.lemmas.Bool.Decides.{Decides-at, Decides-like, Decides-eqb}
use Rattle.lt_registry.specs.Entries.{NumbersRise}
use Rattle.lt_registry.specs.declared.entries.Kind.TheVariants as kinds
use Rattle.lt_registry.specs.declared.entries.EntryName.TheVariants as names
use Rattle.lt_rewrite.proofs.Entries.{entry_has}
use Rattle.lt_check.proofs.FirstFaults.{one_numbered}

-- the core is well-formed, and its text is the grandfathered tag of this number
pub record SpellsGrandfathered (c : CoreParts) : Type 0 where
  pub shaped : IsCore c
  pub number : ℕ
  pub spelled : IsGrandfathered (spell_core c) number

-- a core that its own text is read as is well-formed, and spells the grandfathered tag that the text is
spells : (c : CoreParts) → core_of_list (spell_core c) ≡ Some c → (number : ℕ) → IsGrandfathered (spell_core c) number
    → SpellsGrandfathered c
spells c e n g = record { shaped = ((core_decided (spell_core c) c).0 e).0; number = n; spelled = g }

-- each of the regular cores spells a grandfathered tag
pub each_spells : AllByRecursion SpellsGrandfathered regular_cores
unfolding is_subtag is_language is_extlang is_script is_region is_variant grandfathered_texts grandfathered_list core_of_list grown_by grown
each_spells =
    let lojban = spells (with_variant (codes "art") (codes "lojban")) refl 18
    (record { first = omega arith; last = omega arith; same = refl }) in
    let gaulish = spells (with_variant (codes "cel") (codes "gaulish")) refl 19
    (record { first = omega arith; last = omega arith; same = refl }) in
    let bok = spells (with_extlang (codes "no") (codes "bok")) refl 20 (record { first = omega arith; last = omega arith; same = refl }) in
    let nyn = spells (with_extlang (codes "no") (codes "nyn")) refl 21 (record { first = omega arith; last = omega arith; same = refl }) in
    let guoyu = spells (with_variant (codes "zh") (codes "guoyu")) refl 22
    (record { first = omega arith; last = omega arith; same = refl }) in
    let hakka = spells (with_variant (codes "zh") (codes "hakka")) refl 23
    (record { first = omega arith; last = omega arith; same = refl }) in
    let min = spells (with_extlang (codes "zh") (codes "min")) refl 24 (record { first = omega arith; last = omega arith; same = refl }) in
    let xiang = spells (with_variant (codes "zh") (codes "xiang")) refl 26
    (record { first = omega arith; last = omega arith; same = refl }) in
    (lojban, (gaulish, (bok, (nyn, (guoyu, (hakka, (min, (xiang, tt))))))))

-- there is more than one extlang
abbrev several : List (List ℕ) → Bool
several (x ∷ y ∷ rest) = true
several _ = false

-- more than one extlang is valid in no registry
several_unfit : (R : List EntryParts) (l : List ℕ) (xs : List (List ℕ)) → several xs ≡ true → ExtlangsFit R l xs → ⊥
several_unfit R l (x ∷ y ∷ rest) h f = f
several_unfit R l _ h f = cc

-- the core is one of the regular cores, or has more than one extlang
abbrev known : CoreParts → Bool
known c = several c.extlangs || list_any (same_core c) regular_cores

-- the core that a text is read as, if it is read as one, is a regular core, or has more than one extlang
abbrev known_text : List ℕ → Bool
known_text text = option_map_or known (core_of_list (pieces text)) true

-- each grandfathered tag that can be read as a core is a regular core, or has more than one extlang
all_known : list_all known_text grandfathered_texts ≡ true
unfolding is_subtag is_language is_extlang is_script is_region is_variant grandfathered_texts core_of_list grown_by grown
all_known = refl

-- each core that spells a grandfathered tag is a regular core, or has more than one extlang
pub spelling_known : (c : CoreParts) (number : ℕ) → IsCore c → IsGrandfathered (spell_core c) number → known c ≡ true
unfolding grandfathered_list
spelling_known c number S g =
    let text = slice_index_or grandfathered_texts (number - 1) [] in
    let all = list_all-at known_text grandfathered_texts (number - 1) all_known (omega (arith, g.first, g.last, table_length)) in
    ap (λ o. option_map_or known o true) (sym ((core_decided (pieces text) c).1 (S, g.same))) ∙ all

-- if the entry `e` makes no regular core valid, it makes no core valid that spells a grandfathered tag
pub validates_none : (R : List EntryParts) (e : EntryParts)
    → AllByRecursion (λ (c : CoreParts). Validates R c e → ⊥) regular_cores → (c : CoreParts) (number : ℕ) → IsCore c
    → IsGrandfathered (spell_core c) number → IsProperCore R c → Distinct c.variants
    → second_entry R c.extlangs c.variants ≡ Some e → ⊥
validates_none R e all c number S g P distinct two =
    elim (or_cases (several c.extlangs) (list_any (same_core c) regular_cores) (spelling_known c number S g)) [
      | inl h ↦ several_unfit R c.language c.extlangs h P.extlangs
      | inr h ↦ (
          let there = Contains-from_any (λ a b. (same_core-Decides a b).0) c regular_cores h in
          let none = All-from_recursion (λ (d : CoreParts). Validates R d e → ⊥) regular_cores all in
          All-contains (λ (d : CoreParts). Validates R d e → ⊥) regular_cores c none there
          (record { proper = P; distinct = distinct; second = two }))
    ]

-- if the entry `e` makes no core valid that spells a grandfathered tag, it makes none of the cores `cs` valid, each of
-- which spells one
pub none_validated : (R : List EntryParts) (e : EntryParts)
    → ((c : CoreParts) (number : ℕ) → IsCore c → IsGrandfathered (spell_core c) number → IsProperCore R c
    → Distinct c.variants → second_entry R c.extlangs c.variants ≡ Some e → ⊥) → (cs : List CoreParts)
    → AllByRecursion SpellsGrandfathered cs → AllByRecursion (λ (c : CoreParts). Validates R c e → ⊥) cs
none_validated R e f [] all = tt
none_validated R e f (c ∷ cs) all = (
  (λ v. f c all.0.number all.0.shaped all.0.spelled v.proper v.distinct v.second),
  none_validated R e f cs all.1,
)

-- ---- what the numbers of the records that make regular grandfathered tags valid say of a record

-- the entry of the second subtag is one of the registry
second_there : (R : List EntryParts) (xs vs : List (List ℕ)) (e : EntryParts) → second_entry R xs vs ≡ Some e → Contains R e
second_there R (x ∷ xs) vs e h = (entry_has R kinds.Extlang x (Contains R) (All-contains_itself R) e h).0
second_there R [] (v ∷ vs) e h = (entry_has R kinds.Variant v (Contains R) (All-contains_itself R) e h).0
second_there R [] [] e h = cc

-- where `a` decides `P`, and `b` being false decides `Q`, both being false decides that `P` fails and `Q` holds
step : {P Q : Type 0} (a b : Bool) → Decides a P → Decides (not b) Q → Decides (not (a || b)) ((P → ⊥) × Q)
step true b d e = ((λ h. cc), (λ k. absurd (k.0 (d.0 refl))))
step false b d e = ((λ h. ((λ p. let t : false ≡ true = d.1 p in cc), e.0 h)), (λ k. e.1 k.1))

module _ (R : List EntryParts) (rise : NumbersRise R) (e : EntryParts) (there : Contains R e) where
  -- `o` is the number of the record that makes the core `c` valid: whether `e` is this record is told by its number
  Decides-number : (c : CoreParts) (o : Option ℕ) → IsValidatedBy R c o → Decides (is_number e.number o) (Validates R c e)
  Decides-number c None v = ((λ h. cc), (λ w. absurd (v e w)))
  Decides-number c (Some m) v =
      let same : m ≡ e.number → v.0 ≡ e = λ h. one_numbered R rise v.0 e
      (second_there R c.extlangs c.variants v.0 v.1.second) there (v.2 ∙ h) in
      let back : Validates R c e → m ≡ e.number = λ w. (let one = w.second in let two = v.1.second in let n = v.2 in
      let x : v.0 ≡ e = cc in cc) in
      Decides-like (m == e.number) (λ h. subst (Validates R c) (same h) v.1) back (Decides-eqb m e.number)

  -- whether `e` is none of the records that make the cores `cs` valid is told by their numbers, `os`
  Decides-numbers : (cs : List CoreParts) (os : List (Option ℕ)) → AreValidatedBy R cs os
      → Decides (not (list_any (is_number e.number) os)) (AllByRecursion (λ (c : CoreParts). Validates R c e → ⊥) cs)
  Decides-numbers [] [] v = ((λ h. tt), (λ h. refl))
  Decides-numbers (c ∷ cs) (o ∷ os) v = step (is_number e.number o) (list_any (is_number e.number) os)
      (Decides-number c o v.0) (Decides-numbers cs os v.1)
  Decides-numbers _ _ v = absurd v

  -- a record whose tag is one of the 26, if it is a grandfathered one, meets C8 exactly if its number is none of those
  -- of the records that make regular cores valid
  pub fits_verdict : (os : List (Option ℕ)) → AreValidatedBy R regular_cores os
      → (e.kind ≡ kinds.Grandfathered → (number : ℕ) × (e.name ≡ names.Whole (Grandfathered number))) → (b : Bool)
      → b ≡ list_any (is_number e.number) os → Decides (not b) (HasFittingGrandfathered R e)
  fits_verdict os v named b h =
      Decides-at (not b) (not (list_any (is_number e.number) os)) (ap not h)
      (Decides-like (not (list_any (is_number e.number) os))
      (λ all. record { named = named; regular = validates_none R e all })
      (λ (f : HasFittingGrandfathered R e). none_validated R e f.regular regular_cores each_spells)
      (Decides-numbers regular_cores os v))
