-- What the tests of U2 to U6 on one record compare, and that this decides the condition; and that the first record that
-- fails one is the lowest at fault. `A` is the older registry, `B` the newer.
use Rattle.std.proofs.Common.{◌≡◌, ◌↔◌, ℕ, Bool, true, false, ◌&&◌, cond, List, [], ◌∷◌, length, Option, Some, None}
use Rattle.std.proofs.Common.{refl, sym, ap, ◌∙◌, subst, ◌<◌, IsTrue, is_some, bytes_eq, inl, inr, ◌+◌, ◌-◌, All, arith}
use Rattle.std.proofs.Common.{Contains, slice_index_or}
use Rattle.std.specs.Cmp.{both_ways}
use Rattle.std.specs.List.{list_all}
use Rattle.std.specs.Option.{option_and_then, option_map_or, unwrap_or}
use Rattle.std.proofs.lemmas.Bool.{and_parts, and_from}
use Rattle.std.proofs.lemmas.List.Folds.{Any-from_list_any, list_any_at}
use Rattle.std.proofs.lemmas.Slice.Eq.{bytes_eq-Decides}
use Rattle.lt_registry.specs.Parts.{EntryParts}
use Rattle.lt_registry.specs.Entries.{preferred_value, one_of, entry, is_short, is_registered, language_value}
use Rattle.lt_registry.specs.Entries.{has_prefix, FitsName, IsEntry, is_whole_kind, tag_of, whole_value, NumbersRise}
use Rattle.lt_registry.specs.Same.{same_list}
use Rattle.lt_registry.specs.declared.entries.Kind.{Kind}
use Rattle.lt_rewrite.specs.CoreSteps.{EndsIn}
use Rattle.lt_rewrite.specs.Conditions.{next_value, HasFittingGrandfathered}
use Rattle.lt_rewrite.specs.ChainEnds.{ChainEnds, ChainEndsIn}
use Rattle.lt_upgrade.specs.Upgrade.{SameEnd, KeepsKind, KeepsEnds, IsSameExtlang, IsSameVariantLanguage}
use Rattle.lt_upgrade.specs.Upgrade.{HadVariantLanguage, MeetInCanonical, MeetsUpgrade, records_of, upgrade_rank_of}
use Rattle.lt_upgrade.specs.UpgradeChecking.{is_among, IsFirstAtUpgradeFault, MeetsUpgradeBelow}
use Rattle.lt_check.proofs.Deciding.{Decides-true, Decides-list, Decides-all}
use Rattle.lt_check.proofs.RecordChecks.{one_end}
use Rattle.std.proofs.lemmas.List.Elements.{All-contains, All-contains_itself}
use Rattle.lt_tag.specs.Parts.{TagForm, Grandfathered}
use Rattle.lt_tag.specs.Values.{IsTagValue, core_alone}
use Rattle.lt_registry.specs.Validity.{IsProper, IsValid, RepeatsNoVariant}
use Rattle.lt_registry.proofs.ValidityLaws.{valid_law}
use Rattle.lt_rewrite.specs.TagSteps.{CanBeReplacedWhole, IsReached, IsCanonical, TagStep}
use Rattle.lt_check.specs.Conditions.{HasValidWhole, IsChecked}
use Rattle.lt_canon.specs.Equivalence.{IsEquivalenceAnswer, IsFirstRefusal}
use Rattle.lt_canon.specs.Refusals.{IsRefusedWith}
use Rattle.lt_canon.specs.declared.refusals.Refusal.{Refusal}
use Rattle.lt_check.proofs.CheckedRegistry.{grandfathered_fit, valued_whole, whole_has, value_plain}
use Rattle.lt_canon.proofs.EndForms.{star_end, rest_is_end}
use Rattle.lt_canon.proofs.CanonicalForms.{value_canonical}
use Rattle.lt_canon.proofs.TagForm.{core_end, tag_end, end_form, core_normal, cores_reached}
use Rattle.lt_canon.proofs.TagRepeats.{repeats_at_end, form_is_end}
use Rattle.lt_upgrade.specs.declared.conditions.UpgradeCondition.{UpgradeCondition}
use Rattle.lt_check.proofs.FirstFaults.{below_or_not, lower_before, IsAt, contains_at}
use Rattle.lt_rewrite.proofs.NormalForms.{star_keeps}
use Rattle.lt_registry.specs.declared.entries.Kind.TheVariants as kinds
use Rattle.lt_registry.specs.declared.entries.EntryName.TheVariants as names
use Rattle.lt_canon.specs.declared.refusals.Refusal.TheVariants as refusals
use Rattle.lt_upgrade.specs.declared.conditions.UpgradeCondition.TheVariants as upgrades
use Rattle.lt_upgrade.specs.declared.upgrades.TheConstants.{IN_ORDER}

-- `d` and `e` are the ends of the chains from `s` and `t`, and `b` is whether they are equal: it tells whether the
-- chains end in one subtag; `k` is not Extlang, whose values are languages
pub ends_compared : (R : List EntryParts) (k : Kind) → (k ≡ kinds.Extlang → ⊥) → (s t d e : List ℕ) (b : Bool)
    → ChainEndsIn R k s d → ChainEndsIn R k t e → b ≡ bytes_eq d e → IsTrue b ↔ SameEnd (next_value R k) s t
ends_compared R kinds.Extlang n s t d e b h i same = absurd (n refl)
ends_compared R k n s t d e b h i same = (
  (λ x. let y : d ≡ e = (bytes_eq-Decides d e).0 (sym same ∙ x) in
      record { end = d; left = h; right = subst (EndsIn (next_value R k) t) (sym y) i }),
  (λ (a : SameEnd (next_value R k) s t). same ∙ (bytes_eq-Decides d e).1 (one_end (next_value R k) s d a.end h a.left
      ∙ sym (one_end (next_value R k) t e a.end i a.right))),
)

-- where the chain from `t` has no end, the chains from `s` and `t` do not end in one subtag; `k` is not Extlang, whose
-- values are languages
pub endless_apart : (R : List EntryParts) (k : Kind) → (k ≡ kinds.Extlang → ⊥) → (s t : List ℕ) → (ChainEnds R k t → ⊥)
    → IsTrue false ↔ SameEnd (next_value R k) s t
endless_apart R kinds.Extlang n s t endless = absurd (n refl)
endless_apart R k n s t endless = (
  (λ x. cc),
  (λ (a : SameEnd (next_value R k) s t). absurd (endless (a.right.0, ap (next_value R k) a.right.1 ∙ a.right.2))),
)

-- `b` tells whether the chains from the subtag `s` of the older record `e` and from its value `v` of the same kind end
-- in one: so it tells whether `e` meets U2
pub ends_kept : (B : List EntryParts) (e : EntryParts) (s v : List ℕ) (b : Bool) → e.name ≡ names.Single s
    → Some v ≡ one_of e.value → KeepsKind e.kind v → IsTrue b ↔ SameEnd (next_value B e.kind) s v → IsTrue b
    ↔ KeepsEnds B e
ends_kept B e s v b n o k h = (
  (λ x t w m p _.
      let a : s ≡ t = cc in
      let c : v ≡ w = cc in
      rw (← a, ← c) (h.0 x)),
  (λ f. h.1 (f s v n (sym o) k)),
)

-- the newer registry has the extlang `s` in the record `f`, with the same Prefix: `b`, whether the chains from the
-- older and the newer replacement end in one language, tells whether it is the same extlang
pub extlang_compared : (B : List EntryParts) (e f : EntryParts) (s old new : List ℕ) (b : Bool)
    → Some f ≡ entry B kinds.Extlang s → f.prefixes ≡ e.prefixes → old ≡ unwrap_or (one_of e.value) s
    → new ≡ unwrap_or (one_of f.value) s → IsTrue b ↔ SameEnd (next_value B kinds.Language) old new → IsTrue b
    ↔ IsSameExtlang B e s
extlang_compared B e f s old new b there same o n h = (
  (λ x. record { newer = f; there = sym there; prefixes = same; ends = rw (← o, ← n) (h.0 x) }),
  (λ (k : IsSameExtlang B e s).
      let is : k.newer ≡ f = cc (k.there, there) in
      h.1 (rw (o, n, ← is) k.ends)),
)

-- sets of Prefixes

-- where each Prefix of one subtag of `ps` is among `qs`, each language that is a Prefix in `ps` is one in `qs`
within_of : (ps qs : List (List (List ℕ))) → list_all (is_among qs) ps ≡ true → (l : List ℕ) → has_prefix ps l ≡ true
    → has_prefix qs l ≡ true
within_of ps qs all l h =
    let found = Any-from_list_any (λ p. same_list p (l ∷ [])) ps h in
    let among = (Decides-all (λ p. is_among qs p ≡ true) (is_among qs) (λ p. Decides-true (is_among qs p)) ps).0 all
    found.0 found.1 found.2 in
    ap (is_among qs) (sym (found.3 ∙ (Decides-list found.1 (l ∷ [])).0 found.4)) ∙ among

-- where each language that is a Prefix in `ps` is one in `qs`, each Prefix of one subtag of `ps` is among `qs`
of_within : (ps qs : List (List (List ℕ))) → ((l : List ℕ) → has_prefix ps l ≡ true → has_prefix qs l ≡ true)
    → list_all (is_among qs) ps ≡ true
of_within ps qs h = (Decides-all (λ p. is_among qs p ≡ true) (is_among qs) (λ p. Decides-true (is_among qs p)) ps).1
    (λ k d n. one k d n (slice_index_or ps k d) refl)
  where
    one : (k : ℕ) (d : List (List ℕ)) → k < length ps → (p : List (List ℕ)) → slice_index_or ps k d ≡ p
        → is_among qs (slice_index_or ps k d) ≡ true
    one k d n (l ∷ []) e = ap (is_among qs) e
        ∙ h l (list_any_at (λ p. same_list p (l ∷ [])) ps k d n ((Decides-list (slice_index_or ps k d) (l ∷ [])).1 e))
    one k d n _ e = ap (is_among qs) e

-- `r`, whether the Prefixes of one subtag are among each other both ways, tells whether they are the same; `a` is the
-- first way
pub languages_compared : (ps qs : List (List (List ℕ))) (a r : Bool) → list_all (is_among qs) ps ≡ a
    → r ≡ (a && list_all (is_among ps) qs) → IsTrue r ↔ ((l : List ℕ) → has_prefix ps l ≡ has_prefix qs l)
languages_compared ps qs a r first second =
    let same : r ≡ (list_all (is_among qs) ps && list_all (is_among ps) qs) = rw first second in (
      (λ h l.
          let both = and_parts (list_all (is_among qs) ps) (list_all (is_among ps) qs) (sym same ∙ h) in
          both_ways (has_prefix ps l) (has_prefix qs l) (within_of ps qs both.0 l) (within_of qs ps both.1 l)),
      (λ f. same
          ∙ and_from (list_all (is_among qs) ps) (list_all (is_among ps) qs) (of_within ps qs (λ l h. sym (f l)
          ∙ h)) (of_within qs ps (λ l h. f l ∙ h))),
    )

-- the newer registry gives the variant `s`, in the record `f`, the language `w`, and the same Prefixes of one subtag:
-- `b`, whether the chains from the older language `v` and from `w` end in one, tells whether U4 is met
pub variant_language_compared : (B : List EntryParts) (e f : EntryParts) (s v w : List ℕ) (b : Bool)
    → Some f ≡ entry B kinds.Variant s → Some w ≡ one_of f.value → is_short w ≡ true
    → ((l : List ℕ) → has_prefix f.prefixes l ≡ has_prefix e.prefixes l) → IsTrue b
    ↔ SameEnd (next_value B kinds.Language) v w → IsTrue b ↔ IsSameVariantLanguage B e s v
variant_language_compared B e f s v w b there gives short same h =
    let short_of : List ℕ → Option (List ℕ) = λ x. cond (is_short x) (Some x) None in
    let has : language_value B s ≡ Some w =
    ap (λ o. option_and_then short_of (option_and_then (λ (x : EntryParts). one_of x.value) o)) (sym there)
    ∙ ap (option_and_then short_of) (sym gives) ∙ ap (λ b. cond b (Some w) None) short in (
      (λ x. record {
        newer = w;
        has = has;
        prefixes = λ l. ap (λ o. has_prefix (option_map_or (λ (e : EntryParts). e.prefixes) o []) l) (sym there)
            ∙ same l;
        ends = h.0 x;
      }),
      (λ (k : IsSameVariantLanguage B e s v).
          let is : k.newer ≡ w = cc (k.has, has) in
          h.1 (subst (λ z. SameEnd (preferred_value B kinds.Language) v z) is k.ends)),
    )

-- the older registry has the variant `s`: `b`, whether it has a language as its value there, tells whether U5 is met
pub had_compared : (A : List EntryParts) (e : EntryParts) (s v : List ℕ) (b : Bool) → e.kind ≡ kinds.Variant
    → e.name ≡ names.Single s → one_of e.value ≡ Some v → is_short v ≡ true → is_registered A kinds.Variant s ≡ true
    → b ≡ is_some (language_value A s) → IsTrue b ↔ HadVariantLanguage A e
had_compared A e s v b k n o short there same = (
  (λ x t w _ m _ _ _. let a : s ≡ t = cc in subst (λ z. (y : List ℕ) × (language_value A z ≡ Some y)) a
      ((elim (language_value A s) as (λ o. is_some o ≡ true → (y : List ℕ) × (o ≡ Some y))
      [ None ↦ λ h. cc | Some y ↦ λ h. (y, refl) ]) (sym same ∙ x))),
  (λ f. same ∙ ap is_some (f s v k n o short there).1),
)

-- ---- whether two tags reach one canonical tag by a newer registry

module _ (R : List EntryParts) (C : IsChecked R) where
  -- a canonical tag that steps reach from `t` is the end form of `t`
  pub canonical_end : (t c : TagForm) → IsCanonical R c → IsReached R t c → tag_end R C t ≡ c
  canonical_end t c K r = star_end (end_form R C) r ∙ rest_is_end (end_form R C) c K.valid.proper K.at_rest

  -- `answer`, whether the canonical forms of `t` and `u` are equal, tells whether one canonical tag is reached from
  -- both
  pub forms_compared : (t u : TagForm) (answer : Bool) → IsEquivalenceAnswer R t u answer → IsTrue answer ↔ MeetInCanonical R t u
  forms_compared t u answer a = (
    (λ h. record {
      tag = a.first;
      canonical = a.first_form.canonical;
      left = a.first_form.reached;
      right = subst (IsReached R u) (sym (a.equal.0 h)) a.second_form.reached;
    }),
    (λ (m : MeetInCanonical R t u).
        a.equal.1
        (sym (form_is_end R C t a.first a.first_form) ∙ canonical_end t m.tag m.canonical m.left
        ∙ sym (canonical_end u m.tag m.canonical m.right) ∙ form_is_end R C u a.second a.second_form)),
  )

  -- a tag without repeats that reaches a canonical tag is refused only for memory
  not_refused : (t c : TagForm) (refusal : Refusal) → RepeatsNoVariant t → (refusal ≡ refusals.OutOfMemory → ⊥)
      → IsCanonical R c → IsReached R t c → IsRefusedWith R t refusal → ⊥
  not_refused t c (refusals.Invalid fault) d n K r h =
      let P : IsProper R t = star_keeps (λ x. IsProper R x → IsProper R t)
      (λ a b (s : TagStep R a b) held p. held s.from) r (λ p. p) K.valid.proper in
      (valid_law R t P.tag).0 (record { proper = P; distinct = d }) fault.kind fault.place h.there
  not_refused t c (refusals.ReplacementRepeats v) d n K r h =
      repeats_at_end R C t h.valid h.repeats (subst RepeatsNoVariant (sym (canonical_end t c K r)) K.valid.distinct)
  not_refused t c refusals.OutOfMemory d n K r h = n refl

  -- of two tags without repeats one is refused, and not for memory: no canonical tag is reached from both
  pub refused_apart : (t u : TagForm) (refusal : Refusal) → RepeatsNoVariant t → RepeatsNoVariant u
      → (refusal ≡ refusals.OutOfMemory → ⊥) → IsFirstRefusal R t u refusal → IsTrue false ↔ MeetInCanonical R t u
  refused_apart t u refusal dt du n h = (
    (λ x. cc),
    (λ (m : MeetInCanonical R t u). absurd (elim h [
      | inl a ↦ not_refused t m.tag refusal dt n m.canonical m.left a
      | inr b ↦ not_refused u m.tag refusal du n m.canonical m.right b.refused
    ])),
  )

  -- the tag of a whole record with a value is valid, and can be replaced whole
  whole_replaced : (e : EntryParts) → Contains R e → (t u : TagForm) → e.name ≡ names.Whole t → tag_of e.value ≡ Some u
      → IsValid R t × CanBeReplacedWhole t
  whole_replaced e c t u n o = by e.kind refl fits.0
    where
      fits : FitsName e.kind (names.Whole t)
      fits = subst (FitsName e.kind) n (All-contains IsEntry R e C.registry.forms c).name

      by : (k : Kind) → e.kind ≡ k → is_whole_kind k ≡ true → IsValid R t × CanBeReplacedWhole t
      by kinds.Grandfathered k h =
          let g = (All-contains (HasFittingGrandfathered R) R e (grandfathered_fit R C) c).named k in
          let is : t ≡ Grandfathered g.0 = cc (n, g.1) in
          subst (λ x. IsValid R x × CanBeReplacedWhole x) (sym is)
          (record { proper = record { tag = subst IsTagValue is fits.1; parts = tt }; distinct = tt }, tt)
      by kinds.Redundant k h =
          let plain = (All-contains (HasValidWhole R) R e C.passes.valid_whole c t u n o).1 k in
          (plain.valid, subst CanBeReplacedWhole (sym plain.is) (refl, refl))
      by _ k h = cc

  -- neither the tag of a whole record nor its value repeats a variant
  pub whole_distinct : (e : EntryParts) → Contains R e → (t u : TagForm) → e.name ≡ names.Whole t
      → tag_of e.value ≡ Some u → RepeatsNoVariant t × RepeatsNoVariant u
  whole_distinct e c t u n o =
      ((whole_replaced e c t u n o).0.distinct, (All-contains (HasValidWhole R) R e C.passes.valid_whole c t u n o).0.valid.distinct)

  -- a tag that has a value as a whole, and this value, reach one canonical tag
  pub value_meets : (t u : TagForm) → whole_value R t ≡ Some u → MeetInCanonical R t u
  value_meets t u e =
      let w = valued_whole R t u e in
      let v = whole_replaced w.at (whole_has R t u (Contains R) (All-contains_itself R) w) t u w.named w.gives in
      let p = value_plain R C t u e in
      let n = core_normal R C p.core in
      let form = value_canonical R C t u (core_alone (core_end R C p.core)) v.1 v.0 e
      (record { core = p.core; form = core_end R C p.core; from = p.is; to = refl; normal = n }) in
      record {
        tag = core_alone (core_end R C p.core);
        canonical = form.canonical;
        left = form.reached;
        right = subst (λ x. IsReached R x (core_alone (core_end R C p.core))) (sym p.is)
            (cores_reached R C n.reached [] [] (subst (IsProper R) p.is p.valid.proper));
      }

-- ---- the lowest record at fault

-- each of the records that a condition is on, before index `i`, meets it
abbrev pub EachBefore : List EntryParts → List EntryParts → UpgradeCondition → ℕ → Type 0
EachBefore A B condition i = (k : ℕ) (d : EntryParts) → k < i → MeetsUpgrade condition A B (slice_index_or (records_of condition A B) k d)

-- where each record before the index `i` meets the condition `k` and the record `e` there does not, `e` is the lowest
-- at fault
pub lowest_of : (A B : List EntryParts) (k : UpgradeCondition) (i : ℕ) (e : EntryParts) (number : ℕ)
    → NumbersRise (records_of k A B) → IsAt (records_of k A B) i e → number ≡ e.number
    → EachBefore A B k i → (MeetsUpgrade k A B e → ⊥) → IsFirstAtUpgradeFault A B k number
lowest_of A B k i e number rising a is before fails = record {
  fault = record { entry = e; there = contains_at (records_of k A B) i e a; numbered = sym is; fails = fails };
  first = λ other f. elim (below_or_not other number) [
    | inl l ↦
        absurd (f.fails
        (subst (MeetsUpgrade k A B) f.there.2
        (before f.there.0 f.entry (lower_before (records_of k A B) rising i f.there.0 e f.entry a
        (record { within = f.there.1; there = f.there.2 }) (omega (arith, l, is, f.numbered))))))
    | inr m ↦ m
  ];
}

-- the conditions in the order of their ranks

-- a condition stands in the order at its rank, counted from 1
place_of : (k : UpgradeCondition) → slice_index_or IN_ORDER (upgrade_rank_of k - 1) upgrades.StaysRegistered ≡ k
place_of upgrades.StaysRegistered = refl
place_of _ = refl

-- if all conditions with ranks up to `i` are met, and so is the one at the index `i` of the order, then all with ranks
-- up to `i + 1` are met
pub one_more : (A B : List EntryParts) (i : ℕ) → MeetsUpgradeBelow (i + 1) A B
    → All (MeetsUpgrade (slice_index_or IN_ORDER i upgrades.StaysRegistered) A B) (records_of
    (slice_index_or IN_ORDER i upgrades.StaysRegistered) A B) → MeetsUpgradeBelow (i + 1 + 1) A B
one_more A B i lower meets other m = elim (below_or_not (upgrade_rank_of other) (i + 1)) [
  | inl l ↦ lower other l
  | inr n ↦
      let here : i ≡ upgrade_rank_of other - 1 = omega (arith, m, n) in
      subst (λ j. All (MeetsUpgrade j A B) (records_of j A B))
      (ap (λ j. slice_index_or IN_ORDER j upgrades.StaysRegistered) here ∙ place_of other) meets
]
