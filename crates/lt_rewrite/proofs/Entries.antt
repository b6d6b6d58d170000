-- The entry of a subtag and its value have what each record has, and what the conditions C1 to C6
-- (`MeetsCoreConditions`) ask for. The variant value of a variant is its preferred value if that is a variant, and the
-- language value is its preferred value if that is a language.
use Rattle.std.proofs.Common.{◌≡◌, ℕ, ◌⊎◌, inl, inr, Bool, true, false, true≢false, cond, ◌&&◌, List, [], ◌∷◌, Option}
use Rattle.std.proofs.Common.{Some, None, refl, sym, ap, ◌∙◌, subst, All, bytes_eq, find}
use Rattle.std.specs.List.{AllByRecursion}
use Rattle.std.specs.Option.{option_map_or}
use Rattle.std.specs.Cmp.Lexicographic.{pointwise}
use Rattle.std.proofs.lemmas.List.Elements.{All-head, All-tail}
use Rattle.std.proofs.lemmas.Slice.Eq.{bytes_eq-Decides, slice_eq-Decides}
use Rattle.std.proofs.lemmas.Bool.{and_parts, or_cases, cases_Bool}
use Rattle.std.proofs.lemmas.Option.{cond_some, option_and_then_some, same_Some}
use Rattle.lt_registry.specs.Parts.{EntryParts}
use Rattle.lt_registry.specs.Same.{same_kind}
use Rattle.lt_registry.specs.Entries.{is_named, holds, one_of, entry, preferred_value, prefixes, has_prefix, is_short}
use Rattle.lt_registry.specs.Entries.{variant_value, language_value, is_registered}
use Rattle.lt_registry.specs.declared.entries.Kind.{Kind}
use Rattle.lt_registry.specs.declared.entries.EntryName.{EntryName}
use Rattle.lt_registry.specs.declared.entries.Kind.TheVariants as kinds
use Rattle.lt_rewrite.specs.CoreSteps.{language_beside, Ends}
use Rattle.lt_rewrite.specs.Conditions.{next_value, HasEndingChain, HasFittingVariantValue, HasFinalPrefixes}
use Rattle.lt_rewrite.specs.Conditions.{IsFinalLanguage, MeetsCoreConditions}
use Rattle.lt_rewrite.proofs.Chains.{by_next, ends_first}

-- kinds that pass the test `same_kind` are equal
pub same_kind_is : (a b : Kind) → same_kind a b ≡ true → a ≡ b
same_kind_is kinds.Language kinds.Language h = refl
same_kind_is a kinds.Language h = cc
same_kind_is a b h = cc

-- a kind passes the test `same_kind` with itself
pub same_kind_itself : (a : Kind) → same_kind a a ≡ true
same_kind_itself kinds.Language = refl
same_kind_itself s = refl

-- if `P` holds of each element, it holds of one that is found by a test, which passes the test
pub find_has : {A : Type 0} (P : A → Type 0) (test : A → Bool) (xs : List A) (a : A) → All P xs → find test xs ≡ Some a
    → P a × (test a ≡ true)
find_has P test [] a h e = cc
find_has P test (x ∷ xs) a h e = elim (cases_Bool (test x)) [
  | inl t ↦ let same : x ≡ a = same_Some x a (rw t at e) in (subst P same (All-head P x xs h), ap test (sym same) ∙ t)
  | inr t ↦ find_has P test xs a (All-tail P x xs h) (rw t at e)
]

-- the entry `e` is of the kind `k`, and its name is the subtag `s` or a range that holds `s`
pub record IsEntryOf (k : Kind) (s : List ℕ) (e : EntryParts) : Type 0 where
  pub of_kind : e.kind ≡ k
  pub names : (is_named s e.name ≡ true) ⊎ (holds s e.name ≡ true)

-- if `P` holds of each record, it holds of the entry that is found by a kind and a test of its name; the entry is of
-- the kind, and its name passes the test
found_by : (R : List EntryParts) (k : Kind) (P : EntryParts → Type 0) → All P R
    → (test : EntryName → Bool) (e : EntryParts) → find (λ (e : EntryParts). same_kind e.kind k && test e.name) R
    ≡ Some e → P e × (e.kind ≡ k) × (test e.name ≡ true)
found_by R k P h test e q =
    let both = find_has P (λ (e : EntryParts). same_kind e.kind k && test e.name) R e h q in
    let parts = and_parts (same_kind e.kind k) (test e.name) both.1 in
    (both.0, same_kind_is e.kind k parts.0, parts.1)

-- if `P` holds of each record, it holds of the entry of a subtag, which is as `IsEntryOf` says
pub entry_has : (R : List EntryParts) (k : Kind) (s : List ℕ) (P : EntryParts → Type 0) → All P R → (e : EntryParts)
    → entry R k s ≡ Some e → P e × IsEntryOf k s e
entry_has R k s P h e q =
    by_next (find (λ (e : EntryParts). same_kind e.kind k && is_named s e.name) R)
    (λ n. let f = found_by R k P h (holds s) e (rw n at q) in (f.0, record { of_kind = f.1; names = inr f.2 }))
    (λ g p. let f = found_by R k P h (is_named s) e (p ∙ (rw p at q)) in (f.0, record { of_kind = f.1; names = inl f.2 }))

-- the entry of a subtag is of the kind, and its name is the subtag or a range that holds it
pub entry_of : (R : List EntryParts) (k : Kind) (s : List ℕ) (e : EntryParts) → entry R k s ≡ Some e → IsEntryOf k s e
entry_of R k s e q = (entry_has R k s (λ (x : EntryParts). Unit {0}) (λ k d h. tt) e q).1

-- the entry of the subtag `s` of the kind `k` (`at`), which gives the preferred value `v`
pub record ValuedEntry (R : List EntryParts) (k : Kind) (s v : List ℕ) : Type 0 where
  pub at : EntryParts
  pub found : entry R k s ≡ Some at
  pub of_kind : at.kind ≡ k
  pub gives : one_of at.value ≡ Some v

-- a subtag with a preferred value has an entry that gives it
pub valued : (R : List EntryParts) (k : Kind) (s v : List ℕ) → preferred_value R k s ≡ Some v → ValuedEntry R k s v
valued R k s v q =
    option_and_then_some (λ (e : EntryParts). one_of e.value) (entry R k s) v q
    (λ e p g. record { at = e; found = p; of_kind = (entry_of R k s e p).of_kind; gives = g })

-- if `P` holds of each record, it holds of the entry that gives a value
pub valued_has : (R : List EntryParts) (k : Kind) (s v : List ℕ) (P : EntryParts → Type 0) → All P R → (en : ValuedEntry R k s v) → P en.at
valued_has R k s v P h en = (entry_has R k s P h en.at en.found).0

-- if the choice by a test `b` between `o` and None gives `a`, the test is true, and `o` is `a`
pub some_if : {A : Type 0} (b : Bool) (o : Option A) (a : A) → cond b o None ≡ Some a → (b ≡ true) × (o ≡ Some a)
some_if true o a e = (refl, e)
some_if false o a e = cc

-- if the choice by a test `b` between None and `w` gives `v`, the test is false, and `w` is `v`
none_when : (b : Bool) (w v : List ℕ) → cond b None (Some w) ≡ Some v → (b ≡ false) × (w ≡ v)
none_when true w v e = cc
none_when false w v e = (refl, let s : w ≡ v = cc in s)

-- the variant value of a variant is its preferred value, and is not short
pub variant_value_is : (R : List EntryParts) (v w : List ℕ) → variant_value R v ≡ Some w
    → (preferred_value R kinds.Variant v ≡ Some w) × (is_short w ≡ false)
variant_value_is R v w e =
    option_and_then_some (λ u. cond (is_short u) None (Some u)) (preferred_value R kinds.Variant v) w e
    (λ u p g. let q = none_when (is_short u) u w g in (p ∙ ap Some q.1, ap is_short (sym q.1) ∙ q.0))

-- the language value of a variant is its preferred value, and is short
pub language_value_is : (R : List EntryParts) (v w : List ℕ) → language_value R v ≡ Some w
    → (preferred_value R kinds.Variant v ≡ Some w) × (is_short w ≡ true)
language_value_is R v w e =
    option_and_then_some (λ u. cond (is_short u) (Some u) None) (preferred_value R kinds.Variant v) w e
    (λ u p g. let q = cond_some (is_short u) u w g in (p ∙ ap Some q.1, ap is_short (sym q.1) ∙ q.0))

-- a value that follows in a chain is the preferred value
pub next_is_value : (R : List EntryParts) (k : Kind) (s v : List ℕ) → next_value R k s ≡ Some v → preferred_value R k s ≡ Some v
next_is_value R kinds.Extlang s v e = cc
next_is_value R kinds.Variant s v e = (variant_value_is R s v e).0
next_is_value R kinds.Grandfathered s v e = cc
next_is_value R kinds.Redundant s v e = cc
next_is_value t u s v e = e

-- if the chain from each record's value ends, the chain from every subtag of every kind ends
pub chains_end : (R : List EntryParts) → All (HasEndingChain R) R → (k : Kind) (s : List ℕ) → Ends (next_value R k) s
chains_end R h k s =
    ends_first (next_value R k) s (λ v e.
    let en : ValuedEntry R k s v = valued R k s v (next_is_value R k s v e) in
    subst (λ k. Ends (next_value R k) v) en.of_kind (valued_has R k s v (HasEndingChain R) h en v en.gives))

-- if a VariantLanguage step drops the variant `v` and puts `m` for the language `l`, then `l` is a Prefix of `v`, and
-- `m` the language value of `v`
pub variant_language_is : (R : List EntryParts) (l v m : List ℕ) → language_beside R l v ≡ Some m
    → (has_prefix (prefixes R kinds.Variant v) l ≡ true) × (language_value R v ≡ Some m)
variant_language_is R l v m e = some_if (has_prefix (prefixes R kinds.Variant v) l) (language_value R v) m e

-- if each Prefix is one subtag of which `Q` holds, `Q` holds of a language `l` that is a Prefix
listed_at : (l : List ℕ) (ps : List (List (List ℕ))) (Q : List ℕ → Type 0)
    → AllByRecursion (λ p. (k : List ℕ) × (p ≡ k ∷ []) × Q k) ps → has_prefix ps l ≡ true → Q l
listed_at l [] Q h e = cc
listed_at l (p ∷ ps) Q h e = elim (or_cases (pointwise bytes_eq p (l ∷ [])) (has_prefix ps l) e) [
  | inl t ↦
      let same : h.0.0 ∷ [] ≡ l ∷ [] = sym h.0.1
      ∙ (slice_eq-Decides bytes_eq-Decides p (l ∷ []) (pointwise bytes_eq p (l ∷ [])) refl).0 t in
      let eq : h.0.0 ≡ l = cc in
      subst Q eq h.0.2
  | inr t ↦ listed_at l ps Q h.1 t
]

-- the Prefixes of a subtag are those of its entry
pub prefixes_at : (R : List EntryParts) (k : Kind) (s : List ℕ) (e : EntryParts) → entry R k s ≡ Some e → prefixes R k s ≡ e.prefixes
prefixes_at R k s e h = ap (λ (o : Option EntryParts). option_map_or (λ (e : EntryParts). e.prefixes) o []) h

-- under the conditions C1 to C6 a language that a VariantLanguage step replaces is registered and has no value
pub variant_languages_final : (R : List EntryParts) → MeetsCoreConditions R → (l v m : List ℕ)
    → language_beside R l v ≡ Some m → IsFinalLanguage R l
variant_languages_final R C l v m e =
    let t = variant_language_is R l v m e in
    let w = language_value_is R v m t.1 in
    let en : ValuedEntry R kinds.Variant v m = valued R kinds.Variant v m w.0 in
    let all = ((valued_has R kinds.Variant v m (HasFinalPrefixes R) C.variant_languages en) en.of_kind m en.gives w.1).1 in
    listed_at l en.at.prefixes (IsFinalLanguage R) all
    (ap (λ ps. has_prefix ps l) (sym (prefixes_at R kinds.Variant v en.at en.found)) ∙ t.0)

-- under the conditions C1 to C6 the preferred value `w` of a variant is as C5 asks: it is registered as a language, or
-- as a variant without a language value
value_fits : (R : List EntryParts) → MeetsCoreConditions R → (v w : List ℕ) → preferred_value R kinds.Variant v ≡ Some w
    → ((is_short w ≡ true) × (is_registered R kinds.Language w ≡ true))
    ⊎ ((is_short w ≡ false) × (is_registered R kinds.Variant w ≡ true) × (language_value R w ≡ None))
value_fits R C v w e =
    let en : ValuedEntry R kinds.Variant v w = valued R kinds.Variant v w e in
    valued_has R kinds.Variant v w (HasFittingVariantValue R) C.variants en en.of_kind w en.gives

-- under the conditions C1 to C6 the variant value of a variant is registered, and has no language value
pub variant_value_fits : (R : List EntryParts) → MeetsCoreConditions R → (v w : List ℕ) → variant_value R v ≡ Some w
    → (is_registered R kinds.Variant w ≡ true) × (language_value R w ≡ None)
variant_value_fits R C v w e =
    let p = variant_value_is R v w e in
    elim (value_fits R C v w p.0) [ inl t ↦ absurd (true≢false (sym t.0 ∙ p.1)) | inr t ↦ (t.1, t.2) ]

-- under the conditions C1 to C6 a language value is a registered language
pub language_value_fits : (R : List EntryParts) → MeetsCoreConditions R → (v m : List ℕ) → language_value R v ≡ Some m
    → is_registered R kinds.Language m ≡ true
language_value_fits R C v m e =
    let p = language_value_is R v m e in
    elim (value_fits R C v m p.0) [ inl t ↦ t.1 | inr t ↦ absurd (true≢false (sym p.1 ∙ t.0)) ]

-- under the conditions C1 to C6 neither a variant with a variant value nor its value has a language value
pub no_language : (R : List EntryParts) → MeetsCoreConditions R → (v w : List ℕ) → variant_value R v ≡ Some w
    → (language_value R v ≡ None) × (language_value R w ≡ None)
no_language R C v w e =
    let p = variant_value_is R v w e in
    (rw (p.0, p.1), (variant_value_fits R C v w e).1)
