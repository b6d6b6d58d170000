use Rattle.lt_rewrite.specs.Labels.{step_at}
use Rattle.lt_rewrite.specs.declared.steps.StepKind.TheVariants as kinds
use Rattle.lt_canon.proofs.TraceLemmas.{trace_here}
use Rattle.lt_canon.proofs.traces.follow.Goals as goal

-- after a turn the steps up to its own are a trace to the tag that it reached, which is proper
pub loop-index-preserved : goal.loop-index-preserved
loop-index-preserved g c =
    let on = (c.in-Ok.ensures {u = tt}).ok in
    record {
      led = trace_here (g.L.Lookup.listed c.args.table.now) c.args.tag.now c.args.steps.now c.loop-index.index
          (step_at kinds.Extlang 0 0) c.loop-index.here c.in-Ok.next c.loop-index-test.true c.loop-index.invariant.led on;
      proper = on.0.to;
    }
