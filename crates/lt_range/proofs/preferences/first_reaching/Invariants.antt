use Rattle.lt_range.specs.Preferences.{NoneOf, ReachesAt}
use Rattle.lt_range.proofs.preferences.first_reaching.Given as goal

-- none of the ranges so far reaches the tag
abbrev pub invariant-loop-place : goal.invariant-loop-place
invariant-loop-place l = NoneOf (ReachesAt l.wild l.all l.tag) l.place
