use Rattle.lt_show.proofs.TableLemmas.{table_told}
use Rattle.lt_show.proofs.tables.append_table.Goals as goal

-- the text of the tag, a line feed and the lines of its rows, appended one after another, are the table
pub returns : goal.returns
returns g c =
    table_told (g.L.Lookup.listed c.args.table.now) c.args.records.now c.args.tag.now c.in_ok-text.text.items
    c.deref.result.now c.deref-2.result.now c.in_ok-rows.rows.items c.deref-3.result.now c.args.told.now.items _ _ _
    c.in_ok-text.ensures c.in_ok-rows.ensures c.deref.ensures.value c.deref-2.ensures.value c.deref-3.ensures.value
    c.in_ok-extend_from_slice.ensures.items c.in_ok-push.ensures.items (c.in_ok-append_rows.ensures {u = tt})
