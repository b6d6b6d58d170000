use Rattle.lt_range.specs.Preferences.{NoneOf, SelectsAt}
use Rattle.lt_range.proofs.preferences.selected.Given as goal

-- none of the tags so far is selected
abbrev pub invariant-loop-place : goal.invariant-loop-place
invariant-loop-place l = NoneOf (SelectsAt l.all l.range l.tags) l.place
