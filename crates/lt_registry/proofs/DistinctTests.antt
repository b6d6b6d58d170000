-- What the loop of `none_repeats` needs: variants are distinct exactly if none is among those before it.
use Rattle.std.proofs.Common.{◌≡◌, ◌≢◌, ℕ, ◌+◌, ◌<◌, Bool, true, false, ◌||◌, List, [], ◌∷◌, ◌++◌, length, get_or, take}
use Rattle.std.proofs.Common.{drop, refl, sym, ap, ◌∙◌, subst, bytes_eq, append_assoc}
use Rattle.std.specs.List.{AllByRecursion}
use Rattle.std.proofs.lemmas.Slice.Eq.{bytes_eq-Decides}
use Rattle.lt_registry.specs.Checking.{stands_in}
use Rattle.lt_registry.specs.Validity.{Distinct}
use Rattle.lt_registry.proofs.ListLemmas.{whole_turn, take_turn}
use Rattle.lt_registry.proofs.SplitListLemmas.{distinct_at, all_more}
use Rattle.lt_registry.proofs.VariantFaultLemmas.{stands_at}

-- distinct variants stay distinct with a variant that is none of them
pub distinct_more : (xs : List (List ℕ)) (v : List ℕ) → Distinct xs → AllByRecursion (λ y. y ≢ v) xs → Distinct (xs ++ v ∷ [])
distinct_more [] v h k = (tt, tt)
distinct_more (x ∷ xs) v h k = (all_more (λ y. y ≢ x) xs v h.0 (λ e. k.0 (sym e)), distinct_more xs v h.1 k.1)

-- variants are not distinct if the one at the index `i` is among those before it
pub repeated_at : (vs : List (List ℕ)) (i : ℕ) (v : List ℕ) → i < length vs → v ≡ get_or vs i v
    → stands_in (take i vs) v ≡ true → Distinct vs → ⊥
repeated_at vs i v lt is h D =
    let p = stands_at (take i vs) v h in
    distinct_at vs p.0 v p.1 (drop (i + 1) vs) (whole_turn vs i v lt is ∙ ap (λ f. f ++ v ∷ drop (i + 1) vs) p.2
    ∙ append_assoc p.0 (v ∷ p.1) (v ∷ drop (i + 1) vs)) D

-- a variant that is not found in a list is none of the list
others : (us : List (List ℕ)) (v : List ℕ) → stands_in us v ≡ false → AllByRecursion (λ y. y ≢ v) us
others [] v h = tt
others (u ∷ us) v h = by (others us v) (bytes_eq u v) refl h
  where
    by : (stands_in us v ≡ false → AllByRecursion (λ y. y ≢ v) us) → (b : Bool) → bytes_eq u v ≡ b
        → (b || stands_in us v) ≡ false → AllByRecursion (λ y. y ≢ v) (u ∷ us)
    by rest true e k = cc
    by rest false e k = ((λ s. let t : bytes_eq u v ≡ true = (bytes_eq-Decides u v).1 s in cc), rest k)

-- if the variant at the index `i` is not among the distinct ones before it, the first `i + 1` are distinct
pub distinct_further : (vs : List (List ℕ)) (i : ℕ) (v : List ℕ) → i < length vs → v ≡ get_or vs i v
    → stands_in (take i vs) v ≡ false → Distinct (take i vs) → Distinct (take (i + 1) vs)
distinct_further vs i v lt is h D = subst Distinct (sym (take_turn vs i v lt is)) (distinct_more (take i vs) v D (others (take i vs) v h))
