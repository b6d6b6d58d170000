use Rattle.std.proofs.Common.{◌≡◌, ◌++◌, length, map}
use Rattle.lt_range.specs.Asked.{weighted}
use Rattle.lt_range.proofs.asked.append_weighted.Given as goal

-- those that were moved, with those that are left, are all
abbrev pub invariant-loop-ranges : goal.invariant-loop-ranges
invariant-loop-ranges l =
    l.all.items ++ map (weighted l.weight l.place) l.ranges.items
    ≡ l.initial.all.items ++ map (weighted l.weight l.place) l.initial.ranges.items

-- each turn leaves a range less
abbrev pub decreases-loop-ranges : goal.decreases-loop-ranges
decreases-loop-ranges l = length l.ranges.items
