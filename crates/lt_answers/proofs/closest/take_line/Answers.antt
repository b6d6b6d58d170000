use Rattle.std.proofs.lemmas.Result.{on_ok_weaker}
use Rattle.lt_answers.proofs.ClosestLemmas.{takes_line, takes_nothing}
use Rattle.lt_answers.proofs.closest.take_line.Goals as goal

-- The clause of `take_line`, TakesLine, on any lines before, at its two ends.

-- the line has these subtags, so it changes the closest line as they do
pub returns-in-Some : goal.returns-in-Some
returns-in-Some g c =
    on_ok_weaker c.take_subtags.result
    (takes_line (g.L.Lookup.listed c.args.table.now) c.args.ranges.now c.args.line.now c.in-Some.subtags
    c.args.closest.now c.take_subtags.new.closest
    (rw (c.in-Some.is, c.without_return.ensures) at c.in_ok-subtags.ensures))
    c.take_subtags.ensures

-- the line has no subtags, so no range finds it and the closest line stays
pub returns-in-None : goal.returns-in-None
returns-in-None g c =
    takes_nothing (g.L.Lookup.listed c.args.table.now) c.args.ranges.now c.args.line.now c.args.closest.now
    (rw (c.in-None.is, c.without_return.ensures) at c.in_ok-subtags.ensures)
