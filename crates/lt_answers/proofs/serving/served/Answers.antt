use Rattle.lt_answers.proofs.ServedLemmas.{serves_best, serves_none}
use Rattle.lt_answers.proofs.serving.served.Goals as goal

-- The clause of `served`, ServesOf, at its two ends.

-- the preferences find no tag acceptable, so they serve no line
pub returns-in_err-place : goal.returns-in_err-place
returns-in_err-place c =
    rw c.from_residual.ensures (serves_none c.args.preferences.now c.args.tags.now c.args.lines.items c.in_err-place.ensures)

-- the line at the place of the best tag is the one that is served
pub returns : goal.returns
returns c =
    serves_best c.args.preferences.now c.args.tags.now c.args.lines.items c.in_ok-place.place c.line_at.result
    c.in_ok-place.ensures c.line_at.ensures
