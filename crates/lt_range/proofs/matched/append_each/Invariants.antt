use Rattle.std.proofs.Common.{◌≡◌, ◌++◌, length, map}
use Rattle.lt_range.specs.Ranges.{range_of_tag}
use Rattle.lt_range.proofs.matched.append_each.Given as goal

-- the ranges so far, with those of the lists that are left, are all
abbrev pub invariant-loop-lists : goal.invariant-loop-lists
invariant-loop-lists l =
    l.ranges.items ++ map range_of_tag l.lists.items ≡ l.initial.ranges.items ++ map range_of_tag l.initial.lists.items

-- each turn leaves a list less
abbrev pub decreases-loop-lists : goal.decreases-loop-lists
decreases-loop-lists l = length l.lists.items
