use Rattle.std.specs.Prelude.{MatchOption}
use Rattle.lt_range.specs.Lookup.{FindsNoneOf, FindsAmong}
use Rattle.lt_range.proofs.lookups.closest.Given as goal

-- `best` is the place of the tag that the range finds among those so far, or None if it finds none of them
abbrev pub invariant-loop-place : goal.invariant-loop-place
invariant-loop-place l = MatchOption l.best (FindsNoneOf l.place l.tags l.range) (FindsAmong l.range l.tags l.place)
