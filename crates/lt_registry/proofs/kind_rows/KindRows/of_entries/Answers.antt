use Rattle.std.proofs.Common.{[], ◌++◌, ◌∙◌, ap, refl, sym}
use Rattle.std.specs.List.{cons_option}
use Rattle.lt_registry.specs.Sorted.{range_row, single_row}
use Rattle.lt_registry.specs.declared.rows.Row.{Row}
use Rattle.lt_registry.proofs.IndexLemmas.{rows_turned, single_placed}
use Rattle.lt_registry.proofs.RangeLemmas.{rows_turn}
use Rattle.lt_registry.proofs.kind_rows.KindRows.of_entries.Goals as goal

-- the invariant stays true: a turn adds the row of one entry more, if it names a subtag or a range of the kind
pub loop-place-preserved : goal.loop-place-preserved
loop-place-preserved c =
    let kind = c.args.kind in
    let R = c.args.entries.now in
    let i = c.loop-place.place in
    let e = c.index-entries-place.result in
    record {
      singles = rows_turned (single_row kind) (λ (row : Row). row.place) R i e (single_row kind i e)
          c.loop-place.rows.singles.items _ (single_placed kind i e) c.loop-place-test.true c.index-entries-place.is
          refl c.in_ok-put.ensures.singles c.loop-place.invariant.singles;
      ranges = c.in_ok-put.ensures.ranges ∙ ap (λ l. l ++ cons_option (range_row kind i e) []) c.loop-place.invariant.ranges
          ∙ sym (rows_turn kind R i e (range_row kind i e) c.loop-place-test.true c.index-entries-place.is refl);
    }
