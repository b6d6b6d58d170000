use Rattle.std.proofs.Common.{◌≡◌, suc, ◌-◌, sym, ap, ◌∙◌, arith, rules}
use Rattle.std.specs.List.{list_any}
use Rattle.std.proofs.lemmas.Bool.{le-ltb}
use Rattle.std.proofs.lemmas.List.Sorted.{IsPartitionPoint-from_clause}
use Rattle.lt_upgrade.specs.WidestRanges.{is_up_to, contains}
use Rattle.lt_upgrade.specs.declared.widest_ranges.RangeRow.{RangeRow}
use Rattle.lt_upgrade.proofs.RangeCoverage.{last_holds, search_finds}
use Rattle.lt_upgrade.proofs.widest_ranges.WidestRanges.contain.Goals as goal
use Rattle.lt_upgrade.proofs.widest_ranges.WidestRanges.contain.Goals.{After-partition_point-count}

-- some range contains the one that is asked for exactly if the last range that begins no later does, which is the one
-- before the partition point
held : (c : After-partition_point-count) (d : RangeRow)
    → list_any (contains c.args.first.now c.args.last.now) c.args.self.now
    ≡ last_holds c.args.last.now c.self.inside.rows.items c.partition_point-count.result d
held c d =
    ap (list_any (contains c.args.first.now c.args.last.now)) (sym c.self.view_is)
    ∙ search_finds c.args.first.now c.args.last.now c.self.inside.rows.items c.deref.result.now
    c.partition_point-count.result d c.self.invariant c.deref.ensures.value c.partition_point-count.ensures.bound
    (λ parted. IsPartitionPoint-from_clause (λ (v : RangeRow). is_up_to v.first c.args.first.now) c.deref.result.now
    c.partition_point-count.result c.partition_point-count.ensures.partitioned parted (λ x r f k. search rules))

-- true exactly if some range contains the one that is asked for: of those that begin no later, the last one is tried,
-- which ends last
pub returns-then-count-gt0 : goal.returns-then-count-gt0
returns-then-count-gt0 c =
    let some : c.partition_point-count.result ≡ suc (c.partition_point-count.result - 1) = omega (arith, c.if-count-gt0.true) in
    c.is_up_to.ensures ∙ ap (λ (v : RangeRow). is_up_to c.args.last.now v.last) c.index.ensures
    ∙ sym (rw some at (held (goal.at.returns-then-count-gt0 c).After-partition_point-count c.index.result.now))

-- false is right: each range begins later, so none contains the one that is asked for
pub returns-else-count-gt0 : goal.returns-else-count-gt0
returns-else-count-gt0 c =
    let none : c.partition_point-count.result ≡ 0 = omega (arith, c.if-count-gt0.false) in
    le-ltb 0 c.partition_point-count.result c.if-count-gt0.false
    ∙ sym (rw none at (held (goal.at.returns-else-count-gt0 c).After-partition_point-count
    (record { first = c.args.last.now; last = c.args.last.now })))
