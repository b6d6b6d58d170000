-- If variants are not distinct, there is a leftmost one that occurs a second time, and only one. A refusal
-- `ReplacementRepeats` names it.
use Rattle.std.proofs.Common.{◌≡◌, ℕ, zero, suc, ◌+◌, ◌<◌, ◌⊎◌, inl, inr, true, List, [], ◌∷◌, ◌++◌, length, take, drop}
use Rattle.std.proofs.Common.{get_or, sym, ap, ◌∙◌, subst, append_assoc, arith}
use Rattle.std.proofs.lemmas.Bool.{cases_Bool}
use Rattle.std.proofs.lemmas.List.{get_or_default}
use Rattle.std.proofs.Math.Seq.{take-length}
use Rattle.lt_registry.specs.Checking.{stands_in}
use Rattle.lt_registry.specs.Validity.{Distinct}
use Rattle.lt_registry.proofs.ListLemmas.{whole_turn}
use Rattle.lt_registry.proofs.SplitListLemmas.{distinct_at}
use Rattle.lt_registry.proofs.VariantFaultLemmas.{stands_at}
use Rattle.lt_registry.proofs.DistinctTests.{distinct_further}
use Rattle.lt_canon.specs.Answers.{IsSecondOccurrence}

-- if the variant `v` at index `i` is among those before it, and these are distinct, `v` is the first to occur again
pub second_here : (vs : List (List ℕ)) (i : ℕ) (v : List ℕ) → i < length vs → v ≡ get_or vs i v
    → stands_in (take i vs) v ≡ true → Distinct (take i vs) → IsSecondOccurrence vs v
second_here vs i v l e h d =
    let s = stands_at (take i vs) v h in
    record {
      before = s.0;
      between = s.1;
      after = drop (i + 1) vs;
      there = whole_turn vs i v l e ∙ ap (λ front. front ++ v ∷ drop (i + 1) vs) s.2 ∙ append_assoc s.0 (v ∷ s.1) (v ∷ drop (i + 1) vs);
      first = subst Distinct s.2 d;
    }

-- if the variants before index `i` are distinct, all are, or one is the first to occur again; the `n` from there on are
-- still to be compared
second_from : (vs : List (List ℕ)) (n i : ℕ) → i + n ≡ length vs → Distinct (take i vs) → Distinct vs
    ⊎ ((v : List ℕ) × IsSecondOccurrence vs v)
second_from vs zero i e d = inl (subst Distinct (ap (λ k. take k vs) (omega arith) ∙ take-length vs) d)
second_from vs (suc n) i e d =
    let v : List ℕ = get_or vs i [] in
    let within : i < length vs = omega arith in
    let there : v ≡ get_or vs i v = get_or_default vs i [] v within in
    elim (cases_Bool (stands_in (take i vs) v)) [
      | inl s ↦ inr (v, second_here vs i v within there s d)
      | inr s ↦ second_from vs n (i + 1) (omega arith) (distinct_further vs i v within there s d)
    ]

-- variants are distinct, or one is the first to occur again
pub distinct_or_second : (vs : List (List ℕ)) → Distinct vs ⊎ ((v : List ℕ) × IsSecondOccurrence vs v)
distinct_or_second vs = second_from vs (length vs) 0 (omega arith) tt

-- If one list begins with `a` and then `v`, and with `b` and then `w`, and `P` is true of `a` and of `b`, but of no
-- list that begins with `a` and `v`, or with `b` and `w`, then `v` is `w`.
one_next : {A : Type 0} (P : List A → Type 0) (a : List A) (v : A) (r b : List A) (w : A) (s : List A) → P a → P b
    → ((t : List A) → P (a ++ v ∷ t) → ⊥) → ((t : List A) → P (b ++ w ∷ t) → ⊥) → a ++ v ∷ r ≡ b ++ w ∷ s → v ≡ w
one_next P [] v r [] w s p q f g e = cc
one_next P [] v r (y ∷ b) w s p q f g e = let k : y ≡ v = cc in absurd (f b (subst (λ z. P (z ∷ b)) k q))
one_next P (x ∷ a) v r [] w s p q f g e = let k : x ≡ w = cc in absurd (g a (subst (λ z. P (z ∷ a)) k p))
one_next P (x ∷ a) v r (y ∷ b) w s p q f g e =
    let k : y ≡ x = cc in
    one_next (λ l. P (x ∷ l)) a v r b w s p (subst (λ z. P (z ∷ b)) k q) f (λ t h. g t (subst (λ z. P (z ∷ (b ++ w ∷ t))) (sym k) h)) (cc)

-- no list in which `v` occurs twice is distinct
again : (before : List (List ℕ)) (v : List ℕ) (between t : List (List ℕ)) → Distinct ((before ++ v ∷ between) ++ v ∷ t) → ⊥
again before v between t = distinct_at _ before v between t (append_assoc before (v ∷ between) (v ∷ t))

-- only one variant is the first to occur again
pub one_second : (vs : List (List ℕ)) (v w : List ℕ) → IsSecondOccurrence vs v → IsSecondOccurrence vs w → v ≡ w
one_second vs v w h k =
    one_next Distinct (h.before ++ v ∷ h.between) v h.after (k.before ++ w ∷ k.between) w k.after h.first k.first
    (again h.before v h.between) (again k.before w k.between)
    (append_assoc h.before (v ∷ h.between) (v ∷ h.after) ∙ sym h.there ∙ k.there
    ∙ sym (append_assoc k.before (w ∷ k.between) (w ∷ k.after)))

-- if a variant occurs again, the variants are not distinct
pub second_repeats : (vs : List (List ℕ)) (v : List ℕ) → IsSecondOccurrence vs v → Distinct vs → ⊥
second_repeats vs v h = distinct_at vs h.before v h.between h.after h.there
