use Rattle.std.proofs.Common.{◌≡◌, ◌++◌, drop, length, map}
use Rattle.lt_subtag.specs.Lanes.{number}
use Rattle.lt_registry.proofs.subtag_numbers.numbers_differ.Given as goal

-- there is a number for each subtag so far, so the array has room, and with those of the subtags that are left they are
-- the numbers of all
abbrev pub invariant-loop-subtag : goal.invariant-loop-subtag
invariant-loop-subtag l = record {
  count : length l.numbers.items ≡ l.subtag-index;
  numbers : l.numbers.items ++ map number (drop l.subtag-index l.subtags) ≡ map number l.subtags;
}
