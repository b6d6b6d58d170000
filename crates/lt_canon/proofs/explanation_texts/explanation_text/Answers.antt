use Rattle.std.proofs.Common.{[]}
use Rattle.lt_canon.proofs.LinesLeft.{given_all, given_none, given_step, whole_text}
use Rattle.lt_canon.proofs.explanation_texts.explanation_text.Goals as goal

-- before the loop no line is given, and the whole explanation is left
pub loop-lines-init : goal.loop-lines-init
loop-lines-init g c =
    let whole = (c.in_ok-left.ensures {u = tt}).whole in
    rw c.new-lines.ensures.items (given_none c.in_ok-left.left (rw whole.by whole.is_explanation.trace))

-- a turn gives one line more, that of the next step
pub loop-lines-preserved : goal.loop-lines-preserved
loop-lines-preserved g c =
    let line = rw c.if-branch.true at (c.in_ok-append_line.ensures {u = tt}).line in
    given_step c.in_ok-left.left c.loop-lines.left c.append_line.new.self [] c.loop-lines.lines.items
    c.append_line.new.lines.items c.loop-lines.invariant line

-- the line of the end is given, so the lines are those of the whole explanation
pub returns-clause-written : goal.returns-clause-written
returns-clause-written g c =
    let line = rw c.if-branch.false at (c.in_ok-append_line.ensures {u = tt}).line in
    let all = given_all c.in_ok-left.left c.loop-lines.left c.append_line.new.self [] c.loop-lines.lines.items
    c.append_line.new.lines.items c.loop-lines.invariant line in
    whole_text (g.L.Lookup.listed c.args.checked.now) c.args.text.now c.append_line.new.lines.items c.in_ok-left.left
    (c.in_ok-left.ensures {u = tt}).whole all
