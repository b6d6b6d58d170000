use Rattle.lt_range.specs.Preferences.{AreDeciding}
use Rattle.lt_range.proofs.preferences.all_deciding.Given as goal

-- `found` has for each tag so far the place of the range that decides its weight
abbrev pub invariant-loop-place : goal.invariant-loop-place
invariant-loop-place l = AreDeciding l.all l.tags l.place l.found.items
