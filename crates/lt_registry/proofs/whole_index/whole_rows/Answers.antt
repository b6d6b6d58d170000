use Rattle.std.proofs.Common.{sym, ap, ◌∙◌}
use Rattle.lt_registry.specs.Sorted.{whole_row}
use Rattle.lt_registry.specs.declared.rows.Row.{Row}
use Rattle.lt_registry.proofs.IndexLemmas.{rows_more, rows_skipped, whole_placed}
use Rattle.lt_registry.proofs.whole_index.whole_rows.Goals as goal
use Rattle.lt_registry.proofs.whole_index.whole_rows.Goals.{in-Some+in_ok-push, in_default}

-- the invariant stays true: a turn adds the row of one entry more, if it names a whole tag
pub loop-place-preserved : goal.loop-place-preserved
loop-place-preserved c =
    elim c.match-whole_row.branch [
      | in-Some+in_ok-push w ↦
          let some = sym c.whole_row.ensures ∙ w.in-Some.is in
          rows_more whole_row (λ (row : Row). row.place) c.args.entries.now c.loop-place.place
          c.index-entries-place.result w.in-Some.row c.loop-place.rows.items _ c.loop-place-test.true
          c.index-entries-place.is some
          (whole_placed c.loop-place.place c.index-entries-place.result w.in-Some.row some) (ap (λ z. z.items) w.rows-is
          ∙ w.in_ok-push.ensures.items) c.loop-place.invariant
      | in_default w ↦
          rows_skipped whole_row (λ (row : Row). row.place) c.args.entries.now c.loop-place.place
          c.index-entries-place.result c.loop-place.rows.items _ c.loop-place-test.true c.index-entries-place.is
          (sym c.whole_row.ensures ∙ w.in_default.is) (ap (λ z. z.items) w.rows-is) c.loop-place.invariant
    ]
