use Rattle.std.proofs.Common.{◌≡◌, ◌+◌, ◌<◌, List, length, rules, subst, sym}
use Rattle.lt_range.proofs.SpellingLemmas.{RowsOn, rows_end, rows_no, rows_yes}
use Rattle.lt_range.specs.declared.matching_table.OtherSpelling.{OtherSpelling}
use Rattle.lt_range.proofs.matching_table.rows_of.Goals as goal
use Rattle.lt_range.proofs.matching_table.rows_of.Goals.{in-Some+in_ok-push-in-Some, in-None}

-- after a turn the rows so far, with those of the records left, are still those of all: it adds the row of its record,
-- if the record is of another spelling
pub loop-entry-preserved : goal.loop-entry-preserved
loop-entry-preserved g c =
    let R = g.L.Lookup.listed c.args.checked.now in
    let i = c.loop-entry.entry-index in
    let e = c.entry-item.result in
    let listed : c.entries-entry-items.result.now ≡ R = search rules in
    let within : i < length R = rw listed at c.loop-entry-test.true in
    let is = rw listed at c.entry-item.is in
    elim c.match-branch-2.branch [
      | in-Some+in_ok-push-in-Some w ↦ rw w.rows-is (subst (λ (l : List OtherSpelling). RowsOn R R (i + 1) l)
          (sym w.in_ok-push-in-Some.ensures.items)
          (rows_yes R R i e w.in-Some.row c.loop-entry.rows.items within is
          (rw w.in-Some.is at c.in_ok-row.ensures) c.loop-entry.invariant))
      | in-None w ↦ rw w.rows-is (rows_no R R i e c.loop-entry.rows.items within is
          (rw w.in-None.is at c.in_ok-row.ensures) c.loop-entry.invariant)
    ]

-- the rows are those of all records: none is left
pub returns : goal.returns
returns g c =
    let R = g.L.Lookup.listed c.args.checked.now in
    let listed : c.entries-entry-items.result.now ≡ R = search rules in
    rows_end R R c.loop-entry.entry-index c.loop-entry.rows.items (rw listed at c.loop-entry-test.false) c.loop-entry.invariant
