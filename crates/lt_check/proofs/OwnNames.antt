-- What C1 needs. Two records *clash* if they have the same kind and name, or the same whole tag, and a record has its
-- name alone if no earlier record clashes with it. It does if a look-up of the name finds the record itself, if its
-- range is not among those of the records before it, or if the flag of its subtag was not yet set.
use Rattle.std.proofs.Common.{◌≡◌, ◌↔◌, ◌⊎◌, inl, inr, ℕ, zero, suc, ◌+◌, ◌<◌, ◌≤◌, Bool, true, false, ◌==◌}
use Rattle.std.proofs.Common.{if◌then◌else◌, cond, ◌&&◌, List, [], ◌∷◌, length, Option, Some, None, refl, sym, ap, ◌∙◌}
use Rattle.std.proofs.Common.{subst, arith, IsTrue, Contains, Result, Ok, Err, IfOk, OnOk, find}
use Rattle.std.specs.Prelude.{slice_index_or}
use Rattle.std.specs.Bool.{Decides}
use Rattle.std.proofs.lemmas.Bool.{cases_Bool, eq-eqb}
use Rattle.std.proofs.lemmas.Bool.Decides.{Decides-like}
use Rattle.std.proofs.lemmas.List.{get_or_default}
use Rattle.std.proofs.lemmas.List.Elements.{All-contains_itself, All-from_recursion}
use Rattle.std.proofs.lemmas.Slice.Eq.{bytes_eq-Decides}
use Rattle.std.specs.Option.{option_or}
use Rattle.lt_tag.specs.Parts.{TagForm}
use Rattle.lt_registry.specs.Parts.{EntryParts}
use Rattle.lt_registry.specs.Same.{same_kind}
use Rattle.lt_registry.specs.Entries.{NumbersRise, is_named, holds, is_whole, entry, whole}
use Rattle.lt_registry.specs.declared.entries.Kind.{Kind}
use Rattle.lt_registry.specs.declared.entries.Kind.TheVariants as kinds
use Rattle.lt_registry.specs.declared.entries.EntryName.{EntryName}
use Rattle.lt_registry.specs.declared.entries.EntryName.TheVariants as names
use Rattle.lt_rewrite.specs.Conditions.{Clash, HasOwnName}
use Rattle.lt_rewrite.proofs.Entries.{find_has, same_kind_is, same_kind_itself}
use Rattle.lt_check.specs.Flags.{flag}
use Rattle.lt_check.specs.Places.{place}
use Rattle.lt_check.specs.NameChecks.{kind_number, range_name, range_at, range_of, AreMarked, IsMarked, IsNew}
use Rattle.lt_check.specs.NameChecks.{MarksMore, SeesRange, WasClear}
use Rattle.lt_check.specs.declared.range_names.RangeName.{RangeName}
use Rattle.lt_check.proofs.CheckedRegistry.{whole_name}
use Rattle.lt_check.proofs.Deciding.{same_tag_itself}
use Rattle.lt_check.proofs.FirstFaults.{IsAt, contains_at, lower_before, before_lower, below_or_not}

-- where the record `g` at index `k` passes the test `q`, a search by it finds a record `f` whose number is no higher
pub least : (q : EntryParts → Bool) (R : List EntryParts) → NumbersRise R → (g : EntryParts) (k : ℕ) → k < length R
    → slice_index_or R k g ≡ g → q g ≡ true → (f : EntryParts) × (find q R ≡ Some f) × (f.number ≤ g.number)
least q [] h g k n at t = absurd (omega (arith, n))
least q (e ∷ es) h g zero n at t = (
  e,
  ap (λ b. cond b (Some e) (find q es)) (ap q at ∙ t),
  (let same = ap (λ (x : EntryParts). x.number) at in omega (arith, same)),
)
least q (e ∷ es) h g (suc k) n at t = elim (cases_Bool (q e)) [
  | inl y ↦ (
    e,
    ap (λ b. cond b (Some e) (find q es)) y,
    (let low = All-from_recursion (λ (x : EntryParts). e.number < x.number) es h.0 k g (omega (arith, n)) in
        grind arith),
  )
  | inr y ↦ (let l = least q es h.1 g k (omega (arith, n)) at t in (l.0, ap (λ b. cond b (Some e) (find q es)) y ∙ l.1, l.2))
]

-- a look-up finds the record `e`, by its number
abbrev pub Finds : Option EntryParts → EntryParts → Type 0
Finds found e = (other : EntryParts) × (found ≡ Some other) × (other.number ≡ e.number)

-- `q` is the test of records that clash with `e`, and the look-up gives the first of them, `found`: it is `e` exactly
-- if `e` has its name alone
looked_up : (R : List EntryParts) → NumbersRise R → (q : EntryParts → Bool) (e : EntryParts) → Contains R e
    → ((f : EntryParts) → Decides (q f) (Clash f e)) → (found : Option EntryParts)
    → ((f : EntryParts) → find q R ≡ Some f → found ≡ Some f) → Finds found e ↔ HasOwnName R e
looked_up R rising q e c clashes found gives =
    let l = least q R rising e c.0 c.1 c.2 ((clashes e).1 (inl (refl, refl))) in
    let has = find_has (Contains R) q R l.0 (All-contains_itself R) l.1 in
    let given = gives l.0 l.1 in (
      (λ h f there low clash. let m = least q R rising f there.0 there.1 there.2 ((clashes f).1 clash) in grind arith),
      (λ own. (
        l.0,
        given,
        (let not_lower : l.0.number < e.number → ⊥ = λ low. own l.0 has.0 low ((clashes l.0).0 has.1) in
            omega (arith, l.2, not_lower)),
      )),
    )

-- a record clashes with that of a single subtag `s` exactly if it is of the same kind and names `s`
single_clash : (s : List ℕ) (e f : EntryParts) → e.name ≡ names.Single s
    → Decides (same_kind f.kind e.kind && is_named s f.name) (Clash f e)
single_clash s e f n = (
  (λ t. inl (grind (arith, same_kind_is), grind (arith, bytes_eq-Decides))),
  (λ c. grind (arith, same_kind_itself, bytes_eq-Decides)),
)

-- a look-up of a record's subtag finds the record exactly if it has its name alone
pub single_own : (R : List EntryParts) → NumbersRise R → (e : EntryParts) → Contains R e → (s : List ℕ)
    → e.name ≡ names.Single s → Finds (entry R e.kind s) e ↔ HasOwnName R e
single_own R rising e c s n =
    looked_up R rising _ e c (λ f. single_clash s e f n) (entry R e.kind s)
    (λ f o. ap (λ p. option_or p (find (λ (e' : EntryParts). same_kind e'.kind e.kind && holds s e'.name) R)) o)

-- a look-up of a record's whole tag finds the record exactly if it has its name alone
pub whole_own : (R : List EntryParts) → NumbersRise R → (e : EntryParts) → Contains R e → (t : TagForm)
    → e.name ≡ names.Whole t → Finds (whole R t) e ↔ HasOwnName R e
whole_own R rising e c t n =
    looked_up R rising (λ (f : EntryParts). is_whole t f.name) e c (λ f. (
      (λ h. inr (t, whole_name t f.name h, n)),
      (λ c. elim c [
        | inl a ↦ ap (is_whole t) (a.1 ∙ n) ∙ same_tag_itself t
        | inr a ↦ ap (is_whole t) (a.1 ∙ sym a.2 ∙ n)
            ∙ same_tag_itself t
      ]),
    )) (whole R t) (λ f o. o)

-- ---- names that are ranges

-- the kind that has this number
abbrev kind_of : ℕ → Kind
kind_of n = slice_index_or
    (kinds.Language ∷ kinds.Extlang ∷ kinds.Script ∷ kinds.Region ∷ kinds.Variant ∷ kinds.Grandfathered ∷ []) n
    kinds.Redundant

-- the number of a kind tells the kind
kind_back : (k : Kind) → kind_of (kind_number k) ≡ k
kind_back kinds.Language = refl
kind_back _ = refl

-- two kinds with one number are the same
pub kinds_same : (k l : Kind) → kind_number k ≡ kind_number l → k ≡ l
kinds_same k l h = sym (kind_back k) ∙ ap kind_of h ∙ kind_back l

-- two names that are one range are equal, and so are their kinds
ranges_same : (k l : Kind) (m n : EntryName) (r : RangeName) → range_at k m ≡ Some r → range_at l n ≡ Some r → (k ≡ l) × (m ≡ n)
ranges_same k l (names.Range a b) (names.Range c d) r h j =
    let same : range_name k a b ≡ range_name l c d = cc in
    let first = ap (λ (s : RangeName). s.first) same in
    let last = ap (λ (s : RangeName). s.last) same in
    (kinds_same k l (ap (λ (s : RangeName). s.kind) same), cc)
ranges_same k l _ _ r h j = cc

-- a record that clashes with one of a range has the same range
range_clash : (e f : EntryParts) (r : RangeName) → range_of e ≡ Some r → Clash f e → range_of f ≡ Some r
range_clash e f r h c = grind arith

-- whether the name of the record `e` of `R` is new, where `seen` are the ranges of the records before it
module _ (R : List EntryParts) (seen : List RangeName) (e : EntryParts) where
  -- of a name that is no range: `b`, which tells whether the look-up finds the record, tells whether the name is new
  pub own_new : range_of e ≡ None → (found : Option EntryParts) → Finds found e ↔ HasOwnName R e → (b : Bool) → IsTrue b
      ↔ Finds found e → IsTrue b ↔ IsNew R seen e
  own_new o found g b h = rw o (Decides-like b g.0 g.1 h)

  -- of a name that is no range, which the record is known to have alone: `b` is true, as the name is new
  pub is_own_new : range_of e ≡ None → HasOwnName R e → (b : Bool) → b ≡ true → IsTrue b ↔ IsNew R seen e
  is_own_new o own b is = rw o ((λ _. own), (λ _. is))

  -- of a range `r`: the answer `a` to whether it was added to those seen tells whether the name is new
  pub range_new : {E : Type 0} (r : RangeName) → range_of e ≡ Some r → (a : Result Bool E)
      → IfOk a (λ new. IsTrue new ↔ (Contains seen r → ⊥)) → IfOk a (λ new. IsTrue new ↔ IsNew R seen e)
  range_new r n a h = rw n h

  -- after the record's range `r` was added to those seen, `new` are these and `r` (`SeesRange`)
  pub range_sees : {E : Type 0} (r : RangeName) → range_of e ≡ Some r → (new : List RangeName) (a : Result Bool E)
      → OnOk a ((name : RangeName) → Contains new name ↔ (Contains seen name ⊎ (r ≡ name)))
      → IfOk a (λ _. SeesRange e seen new)
  range_sees r n new (Ok b) h = rw n h
  range_sees r n new (Err x) h = tt

-- `seen` are the ranges that the records before index `i` name
abbrev pub Seen : List EntryParts → ℕ → List RangeName → Type 0
Seen R i seen = (r : RangeName) → Contains seen r ↔ ((k : ℕ) × (f : EntryParts) × (k < i) × IsAt R k f × (range_of f ≡ Some r))

-- the range `o` that the record names, if it names one, was added to `old`, which made `new`: a range is in `new`
-- exactly if it was in `old` or is that of the record
sees : (e : EntryParts) (old new : List RangeName) (o : Option RangeName) → range_of e ≡ o → SeesRange e old new
    → (r : RangeName) → Contains new r ↔ (Contains old r ⊎ (range_of e ≡ Some r))
sees e old new None n h r = rw (rw n at h) ((λ c. inl c), (λ k. elim k [ inl c ↦ c | inr s ↦ absurd (cc) ]))
sees e old new (Some q) n h r =
    let adds = (rw n at h) r in
    ((λ c. elim (adds.0 c) [ inl a ↦ inl a | inr s ↦ inr (cc) ]), (λ k. adds.1 (elim k [ inl c ↦ inl c | inr s ↦ inr (cc) ])))

module _ (R : List EntryParts) (i : ℕ) (e : EntryParts) (a : IsAt R i e) where
  -- a record at index `i` has its range alone exactly if it is not among those of the records before it
  range_own : NumbersRise R → (seen : List RangeName) → Seen R i seen → (r : RangeName) → range_of e ≡ Some r
      → (Contains seen r → ⊥) ↔ HasOwnName R e
  range_own rising seen S r o = (
    (λ new f c l clash.
        let at : IsAt R c.0 f = record { within = c.1; there = c.2 } in
        new ((S r).1 (c.0, f, lower_before R rising i c.0 e f a at l, at, range_clash e f r o clash))),
    (λ own there.
        let s = (S r).0 there in
        own s.1 (contains_at R s.0 s.1 s.3) (before_lower R rising i s.0 e s.1 a s.3 s.2)
        (inl (ranges_same s.1.kind e.kind s.1.name e.name r s.4 o))),
  )

  -- where `seen` are the ranges before index `i`, a name is new exactly if the record at index `i` has it alone
  pub new_own : NumbersRise R → (seen : List RangeName) → Seen R i seen → (o : Option RangeName) → range_of e ≡ o
      → IsNew R seen e ↔ HasOwnName R e
  new_own rising seen S None o = rw o ((λ h. h), (λ h. h))
  new_own rising seen S (Some r) o = rw o (range_own rising seen S r o)

  -- where `old` are the ranges before index `i`, and the range of the record there was added, `new` are those before
  -- the next index
  pub seen_more : (old new : List RangeName) → Seen R i old → SeesRange e old new → Seen R (i + 1) new
  seen_more old new S h r = (
    (λ c. elim ((sees e old new (range_of e) refl h r).0 c) [
      | inl b ↦ (let p = (S r).0 b in (p.0, p.1, omega (arith, p.2), p.3, p.4))
      | inr s ↦ (i, e, omega arith, a, s)
    ]),
    (λ p. (sees e old new (range_of e) refl h r).1 (elim (below_or_not p.0 i) [
      | inl l ↦ inl ((S r).1 (p.0, p.1, l, p.3, p.4))
      | inr m ↦ inr (let s : p.0 ≡ i = omega (arith, p.2, m) in let one = get_or_default R i e p.1 a.within in
          let x = p.3.there in let y = a.there in cc)
    ])),
  )

-- ---- flags of the subtags that were seen

-- `words` is `old` with the flag of one place set: that flag is set
pub flag_set : (words old : List ℕ) (place n : ℕ) → ((m : ℕ) → flag words m ≡ (if m == place then true else flag old m))
    → n ≡ place → flag words n ≡ true
flag_set words old place n put is = put n ∙ rw (eq-eqb n place is) refl

-- `words` is `old` with the flag of one place set: each flag that was set is set still
pub flag_kept : (words old : List ℕ) (place n : ℕ)
    → ((m : ℕ) → flag words m ≡ (if m == place then true else flag old m)) → flag old n ≡ true → flag words n ≡ true
flag_kept words old place n put set = put n ∙ either (n == place)
  where
    either : (b : Bool) → (if b then true else flag old n) ≡ true
    either true = refl
    either false = set

-- if the subtags of the records before the record `e` are marked, and the flag of its own subtag was clear, then `e`
-- has its name alone
pub clear_own : (R : List EntryParts) (e : EntryParts) (s words : List ℕ) → e.name ≡ names.Single s
    → AreMarked R e words → WasClear words e.kind s → HasOwnName R e
clear_own R e s words single marked w f there low clash = elim clash [
  | inl both ↦
      let set = marked f there low s w.number (both.1 ∙ single) (ap (λ k. place k s) both.0 ∙ w.is_place) in
      let bad : true ≡ false = sym set ∙ w.clear in cc
  | inr tags ↦ let bad = sym single ∙ tags.2 in cc
]

-- the subtags of the records before index `i` are marked
abbrev pub MarkedBefore : List EntryParts → ℕ → List ℕ → Type 0
MarkedBefore R i words = (k : ℕ) (f : EntryParts) → k < i → IsAt R k f → IsMarked words f

-- where the subtags of the records before index `i` are marked, those of the records with lower numbers are
pub marked_at : (R : List EntryParts) → NumbersRise R → (i : ℕ) (e : EntryParts) (words : List ℕ) → IsAt R i e
    → MarkedBefore R i words → AreMarked R e words
marked_at R rising i e words a before f there low =
    let at : IsAt R there.0 f = record { within = there.1; there = there.2 } in
    before there.0 f (lower_before R rising i there.0 e f a at low) at

-- where the subtags of the records before index `i` are marked, and then that of the record there, those before the
-- next index are
pub marked_next : (R : List EntryParts) (i : ℕ) (e : EntryParts) (old new : List ℕ) → IsAt R i e → MarkedBefore R i old
    → MarksMore e old new → MarkedBefore R (i + 1) new
marked_next R i e old new a before more k f low at = elim (below_or_not k i) [
  | inl l ↦ λ s n single is. more.kept n (before k f l at s n single is)
  | inr m ↦
      let same : i ≡ k = omega (arith, low, m) in
      subst (IsMarked new) (sym a.there ∙ get_or_default R i e f a.within ∙ ap (λ j. slice_index_or R j f) same ∙ at.there) more.own
]
