use Rattle.std.proofs.Common.{drop}
use Rattle.lt_range.specs.Matching.{MatchesBy}
use Rattle.lt_range.specs.Spellings.{MatchesSome}
use Rattle.lt_range.proofs.ranges.LanguageRange.matches_one.Given as goal

-- one of the lists matches exactly if one of those that are left does
abbrev pub invariant-loop-list : goal.invariant-loop-list
invariant-loop-list l = record {
  next : MatchesSome (MatchesBy l.scheme) l.self l.lists → MatchesSome (MatchesBy l.scheme) l.self (drop l.list-index l.lists);
  back : MatchesSome (MatchesBy l.scheme) l.self (drop l.list-index l.lists) → MatchesSome (MatchesBy l.scheme) l.self l.lists;
}
