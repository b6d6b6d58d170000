use Rattle.lt_registry.proofs.SpanLemmas.{StartsSoFar}
use Rattle.lt_registry.proofs.kind_index.starts.Given as goal

-- the starts are those that the rows before `place` make
abbrev pub invariant-loop-place : goal.invariant-loop-place
invariant-loop-place l = StartsSoFar l.rows l.place l.starts.items
