-- Lemmas on `find`, which gives the first element that passes a test, and on the places of elements in a list with one
-- more at its end. The index of a table (IndexLemmas) needs them.
use Rattle.std.proofs.Common.{◌≡◌, ◌++◌, ◌∙◌, ℕ, Bool, true, List, [], ◌∷◌, inl, inr, refl, sym, ap, length, Some}
use Rattle.std.specs.Prelude.{find, slice_get, zero, suc}
use Rattle.std.specs.List.{All}
use Rattle.std.proofs.lemmas.Bool.{cases_Bool}
use Rattle.std.proofs.lemmas.List.Elements.{All-head, All-tail}

-- the element that is found passes the test
pub find_passes : {X : Type 0} (p : X → Bool) (xs : List X) (x : X) → find p xs ≡ Some x → p x ≡ true
find_passes p [] x h = cc
find_passes p (y ∷ xs) x h = elim (cases_Bool (p y)) [
  | inl is ↦ let same : Some y ≡ Some x = rw is at h in let one : y ≡ x = cc in sym (ap p one) ∙ is
  | inr not ↦ find_passes p xs x (rw not at h)
]

-- what is true of each element is true of the one that is found
pub find_holds : {X : Type 0} (P : X → Type 0) (p : X → Bool) (xs : List X) (x : X) → All P xs → find p xs ≡ Some x → P x
find_holds P p [] x all h = cc
find_holds P p (y ∷ xs) x all h = elim (cases_Bool (p y)) [
  | inl is ↦ let same : Some y ≡ Some x = rw is at h in let one : y ≡ x = cc in rw (← one) (All-head P y xs all)
  | inr not ↦ find_holds P p xs x (All-tail P y xs all) (rw not at h)
]

-- an element at the place i is still there if one element more is put at the end
pub get_before : {X : Type 0} (xs : List X) (x y : X) (i : ℕ) → slice_get xs i ≡ Some y → slice_get (xs ++ x ∷ []) i ≡ Some y
get_before [] x y i h = cc
get_before (z ∷ xs) x y zero h = h
get_before (z ∷ xs) x y (suc i) h = get_before xs x y i h

-- an element that is put at the end is at the place that was the length of the list
pub get_last : {X : Type 0} (xs : List X) (x : X) → slice_get (xs ++ x ∷ []) (length xs) ≡ Some x
get_last [] x = refl
get_last (z ∷ xs) x = get_last xs x

-- a list with one element more at its end is one longer
pub length-last : {X : Type 0} (xs : List X) (x : X) → length (xs ++ x ∷ []) ≡ suc (length xs)
length-last [] x = refl
length-last (z ∷ xs) x = ap suc (length-last xs x)
