use Rattle.std.proofs.Common.{take}
use Rattle.lt_range.specs.Filtering.{NoneMatches}
use Rattle.lt_range.specs.Matching.{MatchesBy}
use Rattle.lt_range.specs.Spellings.{MatchesSome}
use Rattle.lt_range.proofs.matching.Scheme.none_matches.Given as goal

-- no range so far matches the tag
abbrev pub invariant-loop-range : goal.invariant-loop-range
invariant-loop-range l = NoneMatches (MatchesSome (MatchesBy l.self)) (take l.range-index l.ranges) l.tag
