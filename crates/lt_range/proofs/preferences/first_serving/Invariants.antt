use Rattle.lt_range.specs.Preferences.{IsFirstServing}
use Rattle.lt_range.proofs.preferences.first_serving.Given as goal

-- `first` is the place of the first range that serves one of the tags so far
abbrev pub invariant-loop-place : goal.invariant-loop-place
invariant-loop-place l = IsFirstServing l.wild l.all l.tags l.place l.first
