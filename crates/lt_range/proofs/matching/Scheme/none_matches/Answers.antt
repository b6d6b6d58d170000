use Rattle.std.proofs.Common.{◌≡◌, false, true}
use Rattle.lt_range.specs.Matching.{MatchesBy}
use Rattle.lt_range.specs.Spellings.{MatchesSome}
use Rattle.lt_range.proofs.FilterLemmas.{one_matches}
use Rattle.lt_range.proofs.matching.Scheme.none_matches.Goals as goal

-- False is right: this range matches the tag
pub returns-then-matches : goal.returns-then-matches
returns-then-matches c = (
  λ no. let bad : false ≡ true = no in cc,
  λ none. absurd (one_matches (MatchesSome (MatchesBy c.args.self)) c.args.ranges.now c.args.tag.now c.loop-range.range-index
      c.range-item.result c.loop-range-test.true c.range-item.is (c.matches.ensures.0 c.if-matches.true) none),
)
