use Rattle.std.proofs.Common.{map, string_bytes}
use Rattle.std.proofs.lemmas.Result.{err_from_is_err_and}
use Rattle.lt_tool.specs.Shown.{ShowsAs}
use Rattle.lt_tool.proofs.ShownLemmas.{shown_all, shown_more, shown_none, shown_stop}
use Rattle.lt_tool.proofs.showing.show_each.Goals as goal

-- before the loop no text is shown
pub loop-text-init : goal.loop-text-init
loop-text-init g c = shown_none g.O.Write.contents (ShowsAs c.args.json (g.L.Lookup.listed c.args.checked.now)
    c.args.records.now) c.args.output.now (map string_bytes c.args.texts.now)

-- the block of this text could not be written, and no later one is
pub returns-in_err-refused : goal.returns-in_err-refused
returns-in_err-refused g c =
    let p = err_from_is_err_and c.from_residual.result c.from_residual.ensures.1 in
    rw (p.1, p.2) (shown_stop g.O.Write.contents (ShowsAs c.args.json (g.L.Lookup.listed c.args.checked.now)
    c.args.records.now) c.args.output.now string_bytes c.args.texts.now c.loop-text.text-index c.text-item.result
    c.loop-text.output c.show_text.new.output c.loop-text.any _ c.loop-text-test.true c.text-item.is
    c.loop-text.invariant (rw c.as_bytes.ensures.value at c.in_err-refused.ensures))

-- a turn shows one text more; it is refused, or one before it was
pub loop-text-preserved : goal.loop-text-preserved
loop-text-preserved g c =
    rw c.either-any.ensures (shown_more g.O.Write.contents (ShowsAs c.args.json
    (g.L.Lookup.listed c.args.checked.now) c.args.records.now) c.args.output.now string_bytes c.args.texts.now
    c.loop-text.text-index c.text-item.result c.loop-text.output c.show_text.new.output c.loop-text.any
    c.in_ok-refused.refused c.loop-text-test.true c.text-item.is
    c.loop-text.invariant (rw c.as_bytes.ensures.value at c.in_ok-refused.ensures))

-- no text is left, so all are shown
pub returns : goal.returns
returns g c = shown_all g.O.Write.contents (ShowsAs c.args.json (g.L.Lookup.listed c.args.checked.now)
    c.args.records.now) c.args.output.now string_bytes c.args.texts.now c.loop-text.text-index c.loop-text.output
    c.loop-text.any c.loop-text-test.false c.loop-text.invariant
