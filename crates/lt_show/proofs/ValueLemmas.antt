-- An array of JSON that grows by one value, as in the loops that append arrays.
use Rattle.std.proofs.Common.{◌≡◌, ℕ, List, [], ◌∷◌, ◌++◌, length, sym, ◌∙◌, append-nil, append_assoc}
use Rattle.std.proofs.lemmas.List.{flat_map_more}
use Rattle.lt_show.specs.Values.{after_commas, comma_at, commaed}

-- the values of the elements `xs` and one more `x`: those of `xs`, a comma unless `x` is the first, and the value of
-- `x`
pub commaed_more : {A : Type 0} (value : A → List ℕ) (xs : List A) (x : A)
    → commaed value (xs ++ x ∷ []) ≡ (commaed value xs ++ comma_at (length xs)) ++ value x
commaed_more value [] x = append-nil (value x)
commaed_more value (y ∷ xs) x =
    sym (flat_map_more (λ z. 44 ∷ value z) (value y) xs x) ∙ sym (append_assoc (value y ++ after_commas value xs) (44 ∷ []) (value x))
