use Rattle.std.proofs.Common.{rules, of_calls}
use Rattle.std.proofs.lemmas.Fn.{always_returns_same, dedup_same}
use Rattle.std.proofs.lemmas.List.Sorted.{ranks_by}
use Rattle.lt_upgrade.specs.declared.widest_ranges.RangeRow.{RangeRow}
use Rattle.lt_upgrade.proofs.RangeCoverage.{end_total, begins_before, ends_by, widest_of}
use Rattle.lt_upgrade.proofs.widest_ranges.WidestRanges.of_rows.Goals as goal

-- both ends of the ranges that are kept rise, as their type asks: the sort orders them by their beginnings, and each
-- that is kept ends later than the one before it
pub invariant_of-result : goal.invariant_of-result
invariant_of-result c =
    let up = c.sort_unstable_by.ensures.sorted begins_before (ranks_by end_total (λ (r : RangeRow). r.first))
    (always_returns_same _ _ _ (λ a r f called. search (rules, of_calls))) in
    let kept = dedup_same _ ends_by _ (λ x y b f' x' y' k. search rules) _ _ c.dedup_by.ensures.filtered in
    (widest_of c.args.rows.items c.sort_unstable_by.new.self.items c.dedup_by.new.self.items
    c.sort_unstable_by.ensures.permutation up kept).0

-- the ranges that are kept hold what all did: one that is left out begins no earlier and ends no later than a kept one,
-- which holds all that it holds
pub returns : goal.returns
returns c =
    let up = c.sort_unstable_by.ensures.sorted begins_before (ranks_by end_total (λ (r : RangeRow). r.first))
    (always_returns_same _ _ _ (λ a r f called. search (rules, of_calls))) in
    let kept = dedup_same _ ends_by _ (λ x y b f' x' y' k. search rules) _ _ c.dedup_by.ensures.filtered in
    (widest_of c.args.rows.items c.sort_unstable_by.new.self.items c.dedup_by.new.self.items
    c.sort_unstable_by.ensures.permutation up kept).1
