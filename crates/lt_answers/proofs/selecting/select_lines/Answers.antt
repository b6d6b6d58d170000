use Rattle.std.proofs.lemmas.Result.{err_from_is_err_and}
use Rattle.lt_answers.specs.Selection.{IsSelected}
use Rattle.lt_answers.proofs.SelectingLemmas.{selects, selects_not}
use Rattle.lt_answers.proofs.selecting.select_lines.Goals as goal

-- The clause of `select_lines`, SelectsLines, at its two ends.

-- the fault that ended the run is the result, and what was written is a front of the selected lines
pub returns-in_err-end : goal.returns-in_err-end
returns-in_err-end g c =
    let p = err_from_is_err_and c.from_residual.result c.from_residual.ensures.1 in
    rw (p.1, p.2) (selects_not (IsSelected (g.L.Lookup.listed c.args.table.now) c.args.scheme c.args.ranges.now) _
    (λ answers. answers.count) (λ answers lines bytes q. rw (q.0, q.1, q.2) at q.3) _ _ _ _ _ _ _ _
    (rw c.in_err-end.was at c.run_text-end.ensures))

-- all lines were read, so those that are selected were written and counted
pub returns : goal.returns
returns g c =
    selects (IsSelected (g.L.Lookup.listed c.args.table.now) c.args.scheme c.args.ranges.now) _
    (λ answers. answers.count) (λ answers lines bytes q. rw (q.0, q.1, q.2) at q.3) _ _ _ _ _ _ _
    (rw c.in_ok-end.was at c.run_text-end.ensures)
