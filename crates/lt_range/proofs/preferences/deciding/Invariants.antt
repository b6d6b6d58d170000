use Rattle.lt_range.specs.Preferences.{Matched, MayBeLongest, length_at}
use Rattle.lt_range.proofs.preferences.deciding.Given as goal

-- `best` is the place of the longest range so far that matches the tag, or None if none does
abbrev pub invariant-loop-place : goal.invariant-loop-place
invariant-loop-place l = MayBeLongest (Matched l.all l.tag) (length_at l.all) l.place l.best
