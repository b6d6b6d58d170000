use Rattle.lt_show.proofs.PlaceLemmas.{Reached}
use Rattle.lt_show.proofs.placing.place.Given as goal

-- the parts so far, and after them those of the text from `start` on and of the kinds left, are `placed` of the whole
-- text
abbrev pub invariant-loop-kind : goal.invariant-loop-kind
invariant-loop-kind l = Reached l.kinds l.text l.kind-index l.start l.parts.items
