use Rattle.lt_answers.specs.Closest.{NoneFalls}
use Rattle.lt_answers.proofs.closest.first_falling.Given as goal

-- no range so far falls back to the tag
abbrev pub invariant-loop-place : goal.invariant-loop-place
invariant-loop-place l = NoneFalls l.ranges l.place l.tag
