use Rattle.std.proofs.Common.{take}
use Rattle.std.specs.List.{AllByRecursion}
use Rattle.lt_range.specs.Lookup.{FindsNone}
use Rattle.lt_range.proofs.lookups.lookup.Given as goal

-- no range so far finds a tag
abbrev pub invariant-loop-range : goal.invariant-loop-range
invariant-loop-range l = AllByRecursion (FindsNone l.tags) (take l.range-index l.ranges)
