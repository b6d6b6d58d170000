-- Which fault is the first of several where checks follow one another; and that the check of variants answers the first
-- of their faults. A check *tells* the first of some faults if it answers it, or Ok if there is none (`Tells`).
use Rattle.std.proofs.Common.{◌≡◌, ℕ, ◌≤◌, ◌<◌, Bool, true, false, ◌⊎◌, inl, inr, refl, sym, subst, ◌∙◌, arith, ◌+◌}
use Rattle.std.proofs.Common.{◌||◌, not, List, [], ◌∷◌, ◌++◌, length, ap, append_assoc, bytes_eq, ◌≢◌, take, drop}
use Rattle.std.proofs.Common.{get_or}
use Rattle.std.specs.Prelude.{Result, Ok, Err, bytes_eq}
use Rattle.std.proofs.lemmas.Bool.{or_cases, false_from_ne_true}
use Rattle.std.proofs.lemmas.List.Elements.{recursion_from_All}
use Rattle.std.proofs.lemmas.Slice.Eq.{bytes_eq-Decides}
use Rattle.std.specs.List.{AllByRecursion}
use Rattle.std.proofs.Math.Bool.{or-true}
use Rattle.std.proofs.lemmas.List.{append-nil, drop_all}
use Rattle.std.proofs.lemmas.List.Folds.{list_any-append}
use Rattle.lt_registry.specs.Faults.{IsFirstOf, rank_of}
use Rattle.lt_registry.specs.Checking.{Check, Counted, and_then, unless, Tells, TellsOrLacks, stands_in, variant_check, variants_check}
use Rattle.lt_registry.specs.declared.faults.ValidFault.{ValidFault}
use Rattle.lt_registry.specs.declared.faults.ValidFaultKind.{ValidFaultKind}
use Rattle.lt_registry.specs.declared.faults.ValidRefusal.{ValidRefusal}
use Rattle.lt_registry.specs.Parts.{EntryParts}
use Rattle.lt_registry.specs.Entries.{is_registered}
use Rattle.lt_registry.specs.Validity.{Distinct}
use Rattle.lt_registry.specs.declared.faults.ValidRefusal.TheVariants as refusals
use Rattle.lt_registry.specs.declared.entries.Kind.TheVariants as kinds
use Rattle.lt_registry.specs.declared.faults.ValidFaultKind.TheVariants as faults
use Rattle.lt_registry.proofs.ListLemmas.{drop_turn, take_turn}

-- The first of several faults.

-- some faults of a tag, as a statement on the kind of a fault and its place
abbrev pub Faults : Type 1
Faults = ValidFaultKind → ℕ → Type 0

-- the faults of `F` and those of `G`
abbrev pub Or : (F G : Faults) → ValidFaultKind → ℕ → Type 0
Or F G kind place = F kind place ⊎ G kind place

-- `F` and `G` are the same faults
pub record SameFaults (F G : Faults) : Type 0 where
  pub there : (kind : ValidFaultKind) (place : ℕ) → F kind place → G kind place
  pub back : (kind : ValidFaultKind) (place : ℕ) → G kind place → F kind place

-- each fault of `F` is to be reported before any of `G`: its place is no greater and, at one place, its rank is not
pub record Precede (F G : Faults) : Type 0 where
  pub left : (kind other : ValidFaultKind) (place elsewhere : ℕ) → F kind place → G other elsewhere → place ≤ elsewhere
  pub rank : (kind other : ValidFaultKind) (place : ℕ) → F kind place → G other place → rank_of kind ≤ rank_of other

-- no fault of `F` is at a place after `m`
abbrev pub Upto : ℕ → Faults → Type 0
Upto m F = (kind : ValidFaultKind) (place : ℕ) → F kind place → place ≤ m

-- each fault of `F` is at a place after `m`
abbrev pub Past : ℕ → Faults → Type 0
Past m F = (kind : ValidFaultKind) (place : ℕ) → F kind place → m < place

-- faults up to a place precede those past it
pub precede_by : (F G : Faults) (m : ℕ) → Upto m F → Past m G → Precede F G
precede_by F G m up past = record {
  left = λ k l p q f g. let a = up k p f in let b = past l q g in omega (arith, a, b);
  rank = λ k l p f g. let a = up k p f in let b = past l p g in absurd (omega (arith, a, b));
}

-- the first fault of `F` is that of `G`, if they are the same faults
pub first_same : (F G : Faults) (k : ValidFaultKind) (p : ℕ) → SameFaults F G → IsFirstOf F k p → IsFirstOf G k p
first_same F G k p s first = record {
  there = s.there k p first.there;
  leftmost = λ l q g. first.leftmost l q (s.back l q g);
  earliest = λ l g. first.earliest l (s.back l p g);
}

-- a check that tells the first fault of `F` tells that of `G`, if they are the same faults
pub tells_same : (F G : Faults) (a : Check) → SameFaults F G → Tells F a → Tells G a
tells_same F G (Ok done) s t = λ k p g. t k p (s.back k p g)
tells_same F G (Err fault) s t = first_same F G fault.kind fault.place s t

-- a check that tells the first fault of `F`, or that memory ran out, which it may only if `M` is true, tells the same
-- of `G`, if they are the same faults
pub tells_or_lacks_same : (F G : Faults) (M : Type 0) (a : Result (Unit {0}) ValidRefusal) → SameFaults F G
    → TellsOrLacks F M a → TellsOrLacks G M a
tells_or_lacks_same F G M (Ok done) s t = λ k p g. t k p (s.back k p g)
tells_or_lacks_same F G M (Err (refusals.Fault fault)) s t = first_same F G fault.kind fault.place s t
tells_or_lacks_same F G M (Err refusals.OutOfMemory) s t = t

-- the first fault of `F` is the first of both, if the faults of `F` precede those of `G`
pub first_left : (F G : Faults) (k : ValidFaultKind) (p : ℕ) → Precede F G → IsFirstOf F k p → IsFirstOf (Or F G) k p
first_left F G k p before first = record {
  there = inl first.there;
  leftmost = λ l q h. elim h [ inl f ↦ first.leftmost l q f | inr g ↦ before.left k l p q first.there g ];
  earliest = λ l h. elim h [ inl f ↦ first.earliest l f | inr g ↦ before.rank k l p first.there g ];
}

-- the first fault of `G` is the first of both, if `F` has none
pub first_right : (F G : Faults) (k : ValidFaultKind) (p : ℕ) → ((l : ValidFaultKind) (q : ℕ) → F l q → ⊥)
    → IsFirstOf G k p → IsFirstOf (Or F G) k p
first_right F G k p none first = record {
  there = inr first.there;
  leftmost = λ l q h. elim h [ inl f ↦ absurd (none l q f) | inr g ↦ first.leftmost l q g ];
  earliest = λ l h. elim h [ inl f ↦ absurd (none l p f) | inr g ↦ first.earliest l g ];
}

-- a check of `F` and after it one of `G` tell the first fault of both, if the faults of `F` precede those of `G`
pub tells_and : (F G : Faults) (a b : Check) → Precede F G → Tells F a → Tells G b → Tells (Or F G) (and_then a b)
tells_and F G (Ok done) (Ok other) before t u = λ k p h. elim h [ inl f ↦ t k p f | inr g ↦ u k p g ]
tells_and F G (Ok done) (Err fault) before t u = first_right F G fault.kind fault.place t u
tells_and F G (Err fault) b before t u = first_left F G fault.kind fault.place before t

-- the faults `F` are at places after `m` and up to `n`, and the check `a` tells the first of them
pub record Part (m n : ℕ) (F : Faults) (a : Check) : Type 0 where
  pub past : Past m F
  pub upto : Upto n F
  pub tells : Tells F a

-- a check of faults after `l` up to `m`, and after it one of faults after `i` up to `n`, where `m` is at most `i`, are
-- together a check of faults after `l` up to `n`
pub part_then : {l m i n : ℕ} {F G : Faults} {a b : Check} → Part l m F a → Part i n G b → l ≤ i → m ≤ i → i ≤ n
    → Part l n (Or F G) (and_then a b)
part_then {l} {m} {i} {n} {F} {G} {a} {b} f g li mi le = record {
  past = λ k p h. elim h [ inl x ↦ f.past k p x | inr y ↦ let lt = g.past k p y in omega (arith, li, lt) ];
  upto = λ k p h. elim h [ inl x ↦ let to = f.upto k p x in omega (arith, to, mi, le) | inr y ↦ g.upto k p y ];
  tells = tells_and F G a b (precede_by F G i (λ k p x. let to = f.upto k p x in omega (arith, to, mi)) g.past) f.tells g.tells;
}

-- if there are no faults, the check that answers Ok tells so, whatever the places
pub part_none : (m n : ℕ) (F : Faults) → ((k : ValidFaultKind) (p : ℕ) → F k p → ⊥) → Part m n F (Ok tt)
part_none m n F none = record { past = λ k p f. absurd (none k p f); upto = λ k p f. absurd (none k p f); tells = none }

-- `k` at `p` is the one fault of this kind at the place `at`, which is there if `P` is true
pub record Single (kind : ValidFaultKind) (at : ℕ) (P : Type 0) (k : ValidFaultKind) (p : ℕ) : Type 0 where
  pub kinded : k ≡ kind
  pub placed : p ≡ at
  pub cause : P

-- a single fault that is there is the first
pub single_first : (kind : ValidFaultKind) (at : ℕ) (P : Type 0) → P → IsFirstOf (Single kind at P) kind at
single_first kind at P h = record {
  there = record { kinded = refl; placed = refl; cause = h };
  leftmost = λ l q f. let e = f.placed in omega arith;
  earliest = λ l f. subst (λ x. rank_of kind ≤ rank_of x) (sym f.kinded) (omega arith);
}

-- `unless` tells the fault that is there if the test `b` fails
pub tells_unless : (b : Bool) (kind : ValidFaultKind) (at : ℕ) → Tells (Single kind at (b ≡ false)) (unless b kind at)
tells_unless true kind at = λ k p f. let bad : true ≡ false = f.cause in cc
tells_unless false kind at = single_first kind at (false ≡ false) refl

-- a fault at `p` precedes one at `q` if `p` is at most `q` and, at one place, its rank is not greater
pub single_precede : (k l : ValidFaultKind) (p q : ℕ) (P Q : Type 0) → p ≤ q → (p ≡ q → rank_of k ≤ rank_of l)
    → Precede (Single k p P) (Single l q Q)
single_precede k l p q P Q le ranked = record {
  left = λ a b x y f g. let e = f.placed in let h = g.placed in omega (arith, le);
  rank = λ a b x f g.
      let same : p ≡ q = sym f.placed ∙ g.placed in
      subst (λ z. rank_of z ≤ rank_of b) (sym f.kinded) (subst (λ z. rank_of k ≤ rank_of z) (sym g.kinded) (ranked same));
}

-- a single fault is the same under an equivalent condition
pub single_same : (k : ValidFaultKind) (p : ℕ) (P Q : Type 0) → (P → Q) → (Q → P) → SameFaults (Single k p P) (Single k p Q)
single_same k p P Q to from = record {
  there = λ a x f. record { kinded = f.kinded; placed = f.placed; cause = to f.cause };
  back = λ a x f. record { kinded = f.kinded; placed = f.placed; cause = from f.cause };
}

-- `SameFaults` is transitive
pub same_trans : (F G H : Faults) → SameFaults F G → SameFaults G H → SameFaults F H
same_trans F G H s t = record { there = λ k p f. t.there k p (s.there k p f); back = λ k p h. s.back k p (t.back k p h) }

-- `SameFaults` is symmetric
pub same_back : (F G : Faults) → SameFaults F G → SameFaults G F
same_back F G s = record { there = s.back; back = s.there }

-- if faults are the same, those of them that count are the same too; `r` is whether variants may repeat
pub same_counted : (r : Bool) (F G : Faults) → SameFaults F G → SameFaults (Counted r F) (Counted r G)
same_counted r F G s = record { there = λ k p f. (s.there k p f.0, f.1); back = λ k p g. (s.back k p g.0, g.1) }

-- the faults of `F` that count and those of `G` that count are the faults of both that count
pub counted_or : (r : Bool) (F G : Faults) → SameFaults (Or (Counted r F) (Counted r G)) (Counted r (Or F G))
counted_or r F G = record {
  there = λ k p h. elim h [ inl f ↦ (inl f.0, f.1) | inr g ↦ (inr g.0, g.1) ];
  back = λ k p h. elim h.0 [ inl f ↦ inl (f, h.1) | inr g ↦ inr (g, h.1) ];
}

-- if `F` has no fault, the faults of both are those of `G`
pub same_second : (F G : Faults) → ((k : ValidFaultKind) (p : ℕ) → F k p → ⊥) → SameFaults (Or F G) G
same_second F G none = record { there = λ k p h. elim h [ inl f ↦ absurd (none k p f) | inr g ↦ g ]; back = λ k p g. inr g }

-- The faults of variants, from a place on.

-- a list that a variant is in is split by it: `b` comes before it, `c` after it
pub stands_at : (front : List (List ℕ)) (v : List ℕ) → stands_in front v ≡ true → (b c : List (List ℕ)) × (front ≡ b ++ v ∷ c)
stands_at [] v h = cc
stands_at (u ∷ us) v h =
    elim (or_cases (bytes_eq u v) (stands_in us v) h) [
      | inl e ↦ ([], us, ap (λ w. w ∷ us) ((bytes_eq-Decides u v).0 e))
      | inr e ↦ let r = stands_at us v e in (u ∷ r.0, r.1, ap (λ ws. u ∷ ws) r.2)
    ]

-- a variant between `b` and `c` is in the list
pub stands_there : (b c : List (List ℕ)) (v : List ℕ) → stands_in (b ++ v ∷ c) v ≡ true
stands_there [] c v = ap (λ x. x || stands_in c v) ((bytes_eq-Decides v v).1 refl)
stands_there (u ∷ b) c v = ap (λ x. bytes_eq u v || x) (stands_there b c v) ∙ or-true (bytes_eq u v)

-- the faults of a variant `v` at the place `here`: it isn't registered, or it is among those of `before`, which is a
-- fault unless variants may repeat (`r`)
abbrev pub VariantHead : List EntryParts → Bool → ℕ → List (List ℕ) → List ℕ → ValidFaultKind → ℕ → Type 0
VariantHead R r here before v =
    Or (Single faults.UnknownVariant here (is_registered R kinds.Variant v ≡ false))
    (Single faults.DuplicateVariant here ((r || not (stands_in before v)) ≡ false))

-- the faults of a list of variants that come after those of `before`; the first of the list is at the place `here`
unfoldable pub VariantFault : List EntryParts → Bool → ℕ → List (List ℕ) → List (List ℕ) → ValidFaultKind → ℕ → Type 0
VariantFault R r here before [] k p = ⊥
VariantFault R r here before (v ∷ after) k p = VariantHead R r here before v k p ⊎ VariantFault R r (here + 1) (before ++ v ∷ []) after k p

-- the check of one variant tells the first of its faults
variant_tells : (R : List EntryParts) (r : Bool) (here : ℕ) (before : List (List ℕ)) (v : List ℕ)
    → Tells (VariantHead R r here before v) (variant_check R r here before v)
variant_tells R r here before v =
    tells_and (Single faults.UnknownVariant here (is_registered R kinds.Variant v ≡ false))
    (Single faults.DuplicateVariant here ((r || not (stands_in before v)) ≡ false))
    (unless (is_registered R kinds.Variant v) faults.UnknownVariant here)
    (unless (r || not (stands_in before v)) faults.DuplicateVariant here)
    (single_precede faults.UnknownVariant faults.DuplicateVariant here here (is_registered R kinds.Variant v ≡ false)
    ((r || not (stands_in before v)) ≡ false) (omega arith) (λ e. omega arith))
    (tells_unless (is_registered R kinds.Variant v) faults.UnknownVariant here)
    (tells_unless (r || not (stands_in before v)) faults.DuplicateVariant here)

-- a fault of a variant is at the variant's place
head_here : (R : List EntryParts) (r : Bool) (here : ℕ) (before : List (List ℕ)) (v : List ℕ) (k : ValidFaultKind) (p
    : ℕ) → VariantHead R r here before v k p → p ≡ here
head_here R r here before v k p (inl h) = h.placed
head_here R r here before v k p (inr h) = h.placed

-- the check of the variants `vs`, of which the first is at the place after `m`, tells the first of their faults, and
-- each of these is at the place of a variant
pub variants_part : (R : List EntryParts) (r : Bool) (m : ℕ) (before vs : List (List ℕ))
    → Part m (m + length vs) (VariantFault R r (m + 1) before vs) (variants_check R r (m + 1) before vs)
unfolding VariantFault variants_check
variants_part R r m before [] = part_none m (m + 0) (VariantFault R r (m + 1) before []) (λ k p h. h)
variants_part R r m before (v ∷ after) =
    part_then {m = m + 1} {F = VariantHead R r (m + 1) before v}
    (record {
      past = λ k p h. omega (arith, head_here R r (m + 1) before v k p h);
      upto = λ k p h. omega (arith, head_here R r (m + 1) before v k p h);
      tells = variant_tells R r (m + 1) before v;
    })
    (subst (λ n. Part (m + 1) n (VariantFault R r (m + 1 + 1) (before ++ v ∷ []) after)
    (variants_check R r (m + 1 + 1) (before ++ v ∷ []) after)) (omega arith)
    (variants_part R r (m + 1) (before ++ v ∷ []) after))
    (omega arith) (omega arith) (omega arith)

-- the fault `k` at `p` is one of a variant of `vs`, the first of which is at `here` and comes after those of `before`
pub record IsVariantAt (R : List EntryParts) (r : Bool) (here : ℕ) (before vs : List (List ℕ)) (k : ValidFaultKind) (p : ℕ) : Type 0 where
  pub front : List (List ℕ)
  pub variant : List ℕ
  pub after : List (List ℕ)
  pub there : vs ≡ front ++ variant ∷ after
  pub fault : VariantHead R r (here + length front) (before ++ front) variant k p

-- a fault of a variant stays one if its place and the list before it are replaced by equal ones
moved : (R : List EntryParts) (r : Bool) (v : List ℕ) (k : ValidFaultKind) (p : ℕ) {m n : ℕ} {bs cs : List (List ℕ)}
    → m ≡ n → bs ≡ cs → VariantHead R r m bs v k p → VariantHead R r n cs v k p
moved R r v k p {m} {n} {bs} {cs} number front f = subst (λ z. VariantHead R r z cs v k p) number
    (subst (λ z. VariantHead R r m z v k p) front f)

-- a fault of a list of variants is one of a variant in the list
pub variants_shown : (R : List EntryParts) (r : Bool) (here : ℕ) (before vs : List (List ℕ)) (k : ValidFaultKind) (p
    : ℕ) → VariantFault R r here before vs k p → IsVariantAt R r here before vs k p
unfolding VariantFault
variants_shown R r here before [] k p h = absurd h
variants_shown R r here before (v ∷ after) k p (inl h) =
    let same : here ≡ here + 0 = omega arith in
    record { front = []; variant = v; after = after; there = refl; fault = moved R r v k p same (sym (append-nil before)) h }
variants_shown R r here before (v ∷ after) k p (inr h) =
    let at = variants_shown R r (here + 1) (before ++ v ∷ []) after k p h in
    let same : here + 1 + length at.front ≡ here + length (v ∷ at.front) = omega arith in
    record {
      front = v ∷ at.front;
      variant = at.variant;
      after = at.after;
      there = ap (λ ws. v ∷ ws) at.there;
      fault = moved R r at.variant k p same (append_assoc before (v ∷ []) at.front) at.fault;
    }

-- a fault of a variant is one of the list that the variant is in
pub variants_hidden : (R : List EntryParts) (r : Bool) (here : ℕ) (before front : List (List ℕ)) (v : List ℕ) (after
    : List (List ℕ)) (k : ValidFaultKind) (p : ℕ) → VariantHead R r (here + length front) (before ++ front) v k p
    → VariantFault R r here before (front ++ v ∷ after) k p
unfolding VariantFault
variants_hidden R r here before [] v after k p h =
    let same : here + 0 ≡ here = omega arith in
    inl (moved R r v k p same (append-nil before) h)
variants_hidden R r here before (u ∷ front) v after k p h =
    let same : here + length (u ∷ front) ≡ here + 1 + length front = omega arith in
    inr (variants_hidden R r (here + 1) (before ++ u ∷ []) front v after k p
    (moved R r v k p same (sym (append_assoc before (u ∷ []) front)) h))

-- the test that a variant doesn't repeat fails only if variants may not repeat (`r` is false) and this one does (`b` is
-- true)
pub repeats : (r b : Bool) → (r || not b) ≡ false → (r ≡ false) × (b ≡ true)
repeats false true h = (refl, refl)
repeats _ _ h = cc

-- the test that a variant doesn't repeat fails if variants may not repeat (`r` is false) and this one does (`b` is
-- true)
pub repeated : (r b : Bool) → r ≡ false → b ≡ true → (r || not b) ≡ false
repeated false true h e = refl
repeated _ _ h e = cc

-- The check of variants, step by step: `r` is whether they may repeat, `vs` are all variants, and `v` is the one at the
-- index `i`, whose place in the tag is `p`.

-- the check of the variants from the index `i` on is `a`, that of the variant there, and then that of those after it
variants_turn : (R : List EntryParts) (r : Bool) (p : ℕ) (vs : List (List ℕ)) (i : ℕ) (v : List ℕ) (a : Check)
    → i < length vs → v ≡ get_or vs i v → variant_check R r p (take i vs) v ≡ a
    → variants_check R r p (take i vs) (drop i vs)
    ≡ and_then a (variants_check R r (p + 1) (take (i + 1) vs) (drop (i + 1) vs))
unfolding variants_check
variants_turn R r p vs i v a l e told =
    ap (variants_check R r p (take i vs)) (drop_turn vs i v l e)
    ∙ ap (λ xs. and_then (variant_check R r p (take i vs) v) (variants_check R r (p + 1) xs (drop (i + 1) vs))) (sym (take_turn vs i v l e))
    ∙ ap (λ b. and_then b (variants_check R r (p + 1) (take (i + 1) vs) (drop (i + 1) vs))) told

-- if the variant at the index `i` passes, the check is that of those after it
pub variants_on : (R : List EntryParts) (r : Bool) (p : ℕ) (vs : List (List ℕ)) (i : ℕ) (v : List ℕ) → i < length vs
    → v ≡ get_or vs i v → variant_check R r p (take i vs) v ≡ Ok tt → variants_check R r p (take i vs) (drop i vs)
    ≡ variants_check R r (p + 1) (take (i + 1) vs) (drop (i + 1) vs)
variants_on R r p vs i v l e told = variants_turn R r p vs i v (Ok tt) l e told

-- if the variant at the index `i` has a fault, the check answers it
pub variants_stop : (R : List EntryParts) (r : Bool) (p : ℕ) (vs : List (List ℕ)) (i : ℕ) (v : List ℕ) (fault
    : ValidFault) → i < length vs → v ≡ get_or vs i v → variant_check R r p (take i vs) v ≡ Err fault
    → variants_check R r p (take i vs) (drop i vs) ≡ Err fault
variants_stop R r p vs i v fault l e told = variants_turn R r p vs i v (Err fault) l e told

-- past the last variant the check answers Ok
pub variants_end : (R : List EntryParts) (r : Bool) (p : ℕ) (before vs : List (List ℕ)) (i : ℕ) → length vs ≤ i
    → variants_check R r p before (drop i vs) ≡ Ok tt
unfolding variants_check
variants_end R r p before vs i l = ap (variants_check R r p before) (drop_all i vs l)

-- of distinct variants the check is the same whether variants may repeat or not

-- if none of `after` is `v` or among `before`, none of it is among `before` and `v`
next_before : (before : List (List ℕ)) (v : List ℕ) (after : List (List ℕ)) → AllByRecursion (λ w. w ≢ v) after
    → AllByRecursion (λ w. stands_in before w ≡ false) after
    → AllByRecursion (λ w. stands_in (before ++ v ∷ []) w ≡ false) after
next_before before v [] d n = tt
next_before before v (w ∷ after) d n = (
  list_any-append (λ u. bytes_eq u w) before (v ∷ []) ∙ ap (λ b. b || stands_in (v ∷ []) w) n.0
      ∙ ap (λ b. b || false) (false_from_ne_true (bytes_eq v w) (λ e. d.0 (sym ((bytes_eq-Decides v w).0 e)))),
  next_before before v after d.1 n.1,
)

-- of distinct variants, none of which is among `before`, the check is the same whether variants may repeat or not
differing_after : (R : List EntryParts) (p : ℕ) (before vs : List (List ℕ)) → Distinct vs
    → AllByRecursion (λ v. stands_in before v ≡ false) vs → variants_check R true p before vs
    ≡ variants_check R false p before vs
unfolding variants_check
differing_after R p before [] d n = refl
differing_after R p before (v ∷ after) d n =
    ap (and_then (variant_check R true p before v))
    (differing_after R (p + 1) (before ++ v ∷ []) after d.1 (next_before before v after d.0 n.1))
    ∙ ap (λ b. and_then (and_then (unless (is_registered R kinds.Variant v) faults.UnknownVariant p)
    (unless (not b) faults.DuplicateVariant p)) (variants_check R false (p + 1) (before ++ v ∷ []) after)) (sym n.0)

-- the check answers the same if variants may repeat also where `d` is true, since `d` is true only of distinct variants
pub differing_pass : (R : List EntryParts) (r : Bool) (p : ℕ) (vs : List (List ℕ)) (d : Bool) → (d ≡ true → Distinct vs)
    → variants_check R (r || d) p [] vs ≡ variants_check R r p [] vs
differing_pass R true p vs d h = refl
differing_pass R false p vs true h = differing_after R p [] vs (h refl)
    (recursion_from_All (λ v. stands_in [] v ≡ false) vs (λ k d l. refl))
differing_pass R false p vs false h = refl
