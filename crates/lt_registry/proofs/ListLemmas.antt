-- How a list is cut at an index: what a turn of a loop needs that reads the list from the left.
use Rattle.std.proofs.Common.{◌≡◌, ℕ, ◌+◌, ◌<◌, List, [], ◌∷◌, ◌++◌, length, take, drop, get_or, refl, ap, ◌∙◌, add-one, sym}
use Rattle.std.proofs.Math.Seq.{drop-cons}
use Rattle.std.proofs.lemmas.List.{take_more, take-append-drop}

-- from an index on, a list is the element there and what comes after it
pub drop_turn : {A : Type 0} (xs : List A) (i : ℕ) (x : A) → i < length xs → x ≡ get_or xs i x → drop i xs ≡ x ∷ drop (i + 1) xs
drop_turn xs i x l e = drop-cons xs i x l ∙ rw (add-one i, ← e) refl

-- a list is the elements before an index, the element there, and what comes after it
pub whole_turn : {A : Type 0} (xs : List A) (i : ℕ) (x : A) → i < length xs → x ≡ get_or xs i x → xs ≡ take i xs ++ x ∷ drop (i + 1) xs
whole_turn xs i x l e = sym (ap (λ zs. take i xs ++ zs) (sym (drop_turn xs i x l e)) ∙ take-append-drop i xs)

-- the first `i + 1` elements are the first `i` and the one at the index `i`
pub take_turn : {A : Type 0} (xs : List A) (i : ℕ) (x : A) → i < length xs → x ≡ get_or xs i x → take (i + 1) xs ≡ take i xs ++ x ∷ []
take_turn xs i x l e = take_more xs i x l ∙ rw (← e) refl
