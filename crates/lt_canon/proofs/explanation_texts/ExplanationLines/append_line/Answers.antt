use Rattle.std.proofs.Common.{◌<◌, ◌+◌, arith, drop, length, refl}
use Rattle.lt_canon.proofs.LinesLeft.{step_at, trace_behind}
use Rattle.lt_canon.proofs.explanation_texts.ExplanationLines.append_line.Goals as goal

-- what is left after a step leads to the end still: the steps after it lead from the tag that it leads to, which is
-- proper
pub invariant_of-self : goal.invariant_of-self
invariant_of-self g c =
    let inside = c.self.inside in
    let steps = inside.trace.steps.items in
    let within : inside.taken < length steps = omega (arith, c.if-self-len.false, c.len.ensures) in
    let next = step_at steps inside.taken c.index.result.now within c.index.ensures in
    let on = (c.in-Ok.ensures {u = tt}).ok in
    record {
      proper = on.0.to;
      trace = trace_behind (g.L.Lookup.listed inside.table.now) inside.here c.in-Ok.next inside.trace.last
          c.index.result.now (drop (inside.taken + 1) steps) (rw next at c.self.invariant.trace) on;
    }

-- true is right, and what was appended is the next line: that of the first step that was left, after which the others
-- are left
pub returns-clause-line : goal.returns-clause-line
returns-clause-line g c =
    let inside = c.self.inside in
    let steps = inside.trace.steps.items in
    let within : inside.taken < length steps = omega (arith, c.if-self-len.false, c.len.ensures) in
    rw (← c.self.view_is) (record {
      step = c.index.result.now;
      steps = drop (inside.taken + 1) steps;
      next = step_at steps inside.taken c.index.result.now within c.index.ensures;
      to = c.in-Ok.next;
      leads = (c.in-Ok.ensures {u = tt}).ok;
      left = refl;
      grown = c.in_ok-append_step.ensures;
    })
