-- Those Prefixes of a record that are one subtag, as numbers that rise,
-- so that one is found by binary search (RFC 5646, 3.1.8).
use Rattle.std.specs.Prelude.{ℕ, List, [], ◌∷◌, Option, Some, None}
use Rattle.std.specs.List.{filter_map}
use Rattle.std.specs.List.Sorted.{IsPermutation, IsSorted}
use Rattle.std.specs.Ordering.{nat_cmp}
use Rattle.lt_subtag.specs.Lanes.{number}

-- the number of the one subtag that a Prefix is; None of a longer Prefix
abbrev pub single_of : List (List ℕ) → Option ℕ
single_of (s ∷ []) = Some (number s)
single_of _ = None

-- the numbers of the Prefixes that are one subtag, in rising order
pub record AreSingles (prefixes : List (List (List ℕ))) (numbers : List ℕ) : Type 0 where
  pub same : IsPermutation (filter_map single_of prefixes) numbers
  pub rising : IsSorted nat_cmp numbers
