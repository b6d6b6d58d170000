use Rattle.std.proofs.Common.{◌≡◌}
use Rattle.lt_rewrite.specs.CoreSteps.{chase}
use Rattle.lt_rewrite.specs.Conditions.{next_value}
use Rattle.lt_rewrite.proofs.chain_ends.end_of_chain.Given as goal

-- after as many values as there were turns the walk from the subtag is at `end`
abbrev pub invariant-loop-step : goal.invariant-loop-step
invariant-loop-step g l = l.end ≡ chase (next_value (g.L.Lookup.listed l.table) l.kind) l._step l.subtag
