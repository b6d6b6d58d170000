use Rattle.lt_show.proofs.RowLemmas.{rows_turn}
use Rattle.lt_show.proofs.rows.rows_of.Goals as goal

-- a turn adds the row of one part more
pub loop-index-preserved : goal.loop-index-preserved
loop-index-preserved g c =
    rows_turn (g.L.Lookup.listed c.args.table.now) c.args.tag.now c.in_ok-text.text.items
    c.deref-in-loop-index.result.now c.deref-part-items.result.now c.loop-index.index _ c.in_ok-rows.rows.items
    c.loop-index.rows.items c.push.new.self.items
    c.row_of.result c.loop-index-test.true c.deref-in-loop-index.ensures.value c.loop-index.invariant c.row_of.ensures
    c.in_ok-push.ensures.items
