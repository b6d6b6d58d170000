use Rattle.lt_range.specs.Preferences.{FallsAt, MayBeLongest, tag_length_at}
use Rattle.lt_range.proofs.preferences.looked_up.Given as goal

-- `best` is the place of the longest tag so far to which the range falls back, or None if there is none
abbrev pub invariant-loop-place : goal.invariant-loop-place
invariant-loop-place l = MayBeLongest (FallsAt l.all l.range l.tags) (tag_length_at l.tags) l.place l.best
