use Rattle.std.proofs.lemmas.Result.{on_ok_weaker}
use Rattle.lt_answers.proofs.ServedLemmas.{takes_no_tag, takes_tag}
use Rattle.lt_answers.proofs.serving.take_tag.Goals as goal

-- The clause of `take_tag`, TakesTag, on any lines before, at its two ends.

-- the line is a tag, so it is put after the others, and its subtags after theirs
pub returns-in-Some : goal.returns-in-Some
returns-in-Some g c =
    let R = g.L.Lookup.listed c.args.table.now in
    on_ok_weaker c.put_line.result
    (takes_tag R c.args.line.now c.args.lines.now.items c.args.tags.now.items c.put_line.new.lines.items
    c.put_line.new.tags.items c.in-Some.subtags (rw (c.in-Some.is, c.without_return.ensures) at c.in_ok-subtags.ensures))
    c.put_line.ensures

-- the line has no subtags by which it is matched, so it is not kept
pub returns-in-None : goal.returns-in-None
returns-in-None g c =
    let R = g.L.Lookup.listed c.args.table.now in
    takes_no_tag R c.args.line.now c.args.lines.now.items c.args.tags.now.items
    (rw (c.in-None.is, c.without_return.ensures) at c.in_ok-subtags.ensures)
