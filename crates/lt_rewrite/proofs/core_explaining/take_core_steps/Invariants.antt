use Rattle.lt_rewrite.specs.Runs.{AddsOnCore}
use Rattle.lt_rewrite.proofs.CoreLaws.{weight}
use Rattle.lt_rewrite.proofs.core_explaining.take_core_steps.Given as goal

-- the steps so far are a run of first steps that leads to the present core
abbrev pub invariant-loop-step : goal.invariant-loop-step
invariant-loop-step g l = AddsOnCore (g.L.Lookup.listed l.table) l.start l.fn.core l.core l.fn.steps.items l.steps.items

-- the loop ends, since each step makes the weight of the core lower, a number that counts the values that follow its
-- subtags
abbrev pub decreases-loop-step : goal.decreases-loop-step
decreases-loop-step g l = weight (g.L.Lookup.listed l.table) l.core
