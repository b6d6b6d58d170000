use Rattle.std.proofs.Common.{drop}
use Rattle.lt_range.specs.Matched.{AnyMatches}
use Rattle.lt_range.proofs.matching.any_matches.Given as goal

-- one of the ranges matches exactly if one of those that are left does
abbrev pub invariant-loop-range : goal.invariant-loop-range
invariant-loop-range l = record {
  next : AnyMatches l.scheme l.ranges l.tag → AnyMatches l.scheme (drop l.range-index l.ranges) l.tag;
  back : AnyMatches l.scheme (drop l.range-index l.ranges) l.tag → AnyMatches l.scheme l.ranges l.tag;
}
