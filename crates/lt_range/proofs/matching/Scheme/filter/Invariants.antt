use Rattle.std.proofs.Common.{◌++◌, List, ℕ, [], take, drop}
use Rattle.lt_range.specs.Filtering.{Selects}
use Rattle.lt_range.specs.Matching.{MatchesBy}
use Rattle.lt_range.specs.Spellings.{MatchesSome}
use Rattle.lt_range.proofs.matching.Scheme.filter.Given as goal

-- the places so far, with any after them that the ranges left select, are what all ranges select
abbrev pub invariant-loop-index : goal.invariant-loop-index
invariant-loop-index l =
    (more : List ℕ) → Selects (MatchesSome (MatchesBy l.self)) (take l.index l.ranges) (drop l.index l.ranges) l.tags more
    → Selects (MatchesSome (MatchesBy l.self)) [] l.ranges l.tags (l.places.items ++ more)
