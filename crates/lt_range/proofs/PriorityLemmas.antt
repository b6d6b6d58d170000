-- The elements of a header whose weight is not 0, sorted by falling weights with a stable sort, are its priority list:
-- `by_priority` needs this.
use Rattle.std.proofs.Common.{◌≡◌, ℕ, ◌<◌, Bool, List, [], ◌∷◌, length, refl, sym, ap, ◌∙◌, arith}
use Rattle.std.specs.Prelude.{◌==◌, not, filter, IsPermutation}
use Rattle.std.specs.Ordering.{is_lt, nat_cmp}
use Rattle.std.specs.List.Sorted.{IsSortedBy, IsStableBy, ties}
use Rattle.std.proofs.lemmas.Bool.Decides.{nat_tests}
use Rattle.std.proofs.lemmas.List.Sorted.{length_permutation}
use Rattle.lt_range.specs.Priority.{of_weight, IsPriorityList}
use Rattle.lt_range.specs.declared.elements.WeightedRange.{WeightedRange}

-- the order of the sort: the greater weight comes first
abbrev pub comes_first : WeightedRange → WeightedRange → Bool
comes_first x y = is_lt (nat_cmp y.weight x.weight)

-- the weight is not 0
abbrev pub has_weight : WeightedRange → Bool
has_weight e = not (e.weight == 0)

-- elements that tie with `x` are those of its weight
ties_are : (x : WeightedRange) (es : List WeightedRange) → filter (ties comes_first x) es ≡ of_weight x.weight es
ties_are x [] = refl
ties_are x (e ∷ es) = grind (arith, nat_tests, ties_are x es)

-- of no elements none has this weight
of_none : (weight : ℕ) (es : List WeightedRange) → length es ≡ 0 → of_weight weight es ≡ []
of_none weight [] h = refl
of_none weight (e ∷ es) h = absurd (omega arith)

-- a stable sort leaves the elements of each weight in their order
same_of_weight : (xs ys : List WeightedRange) → IsPermutation xs ys → IsStableBy comes_first xs ys → (weight : ℕ)
    → of_weight weight ys ≡ of_weight weight xs
same_of_weight [] ys moved stable weight = of_none weight ys (length_permutation [] ys moved)
same_of_weight (e ∷ es) ys moved stable weight =
    let x : WeightedRange = record e { weight = weight } in
    sym (ties_are x ys) ∙ stable x ∙ ties_are x (e ∷ es)

-- none of the elements whose weight is not 0 has weight 0
zero_of_others : (es : List WeightedRange) → of_weight 0 (filter has_weight es) ≡ []
zero_of_others [] = refl
zero_of_others (e ∷ es) = grind (arith, nat_tests, zero_of_others es)

-- to leave out the elements of weight 0 leaves those of a weight above 0 as they are, in their order
others_stay : (weight : ℕ) (es : List WeightedRange) → 0 < weight → of_weight weight (filter has_weight es) ≡ of_weight weight es
others_stay weight [] h = refl
others_stay weight (e ∷ es) h = grind (arith, nat_tests, others_stay weight es h)

-- if `xs` are the elements whose weight is not 0, and `ys` are `xs` after a stable sort by weight, `ys` are the
-- priority list
pub sorted_is_priority : (es xs ys : List WeightedRange) → xs ≡ filter has_weight es → IsPermutation xs ys
    → IsSortedBy comes_first ys → IsStableBy comes_first xs ys
    → IsPriorityList es ys
sorted_is_priority es xs ys kept moved sorted stable =
    let same = same_of_weight xs ys moved stable in
    record {
      falling = λ i d h. let k = sorted i d (omega arith) h in grind (arith, nat_tests, k);
      none_of_zero = same 0 ∙ ap (of_weight 0) kept ∙ zero_of_others es;
      same = λ weight h. same weight ∙ ap (of_weight weight) kept ∙ others_stay weight es h;
    }
