-- The language priority list that a header stands for (RFC 4647, 2.3; RFC 9110, 12.4.2 and 12.5.4).
use Rattle.std.specs.Prelude.{ℕ, ◌≡◌, ◌+◌, ◌<◌, ◌≤◌, ◌==◌, List, [], map, length, filter, slice_index_or, Ok}
use Rattle.lt_range.specs.Elements.{parts_of}
use Rattle.lt_range.specs.Headers.{elements_of}
use Rattle.lt_range.specs.declared.elements.WeightedRange.{WeightedRange}

-- the elements with this weight, in their order
abbrev pub of_weight : ℕ → List WeightedRange → List WeightedRange
of_weight weight elements = filter (λ e. e.weight == weight) elements

-- `ranges` are those of the elements whose weight is not 0, from the greatest weight to the least, and those of one
-- weight in the order of the header
pub record IsPriorityList (elements ranges : List WeightedRange) : Type 0 where
  pub falling : (i : ℕ) (d : WeightedRange) → i + 1 < length ranges
      → (slice_index_or ranges (i + 1) d).weight ≤ (slice_index_or ranges i d).weight
  pub none_of_zero : of_weight 0 ranges ≡ []
  pub same : (weight : ℕ) → 0 < weight → of_weight weight ranges ≡ of_weight weight elements

-- what a header says: the ranges that are acceptable, by priority, and those that are not, in the order of the header
pub record IsReading (text : List ℕ) (acceptable not_acceptable : List WeightedRange) : Type 0 where
  pub elements : List WeightedRange
  pub read : elements_of text ≡ Ok (map parts_of elements)
  pub ordered : IsPriorityList elements acceptable
  pub refused : not_acceptable ≡ of_weight 0 elements
