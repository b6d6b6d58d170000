use Rattle.std.proofs.Common.{◌≡◌, [], map}
use Rattle.lt_range.specs.Elements.{parts_of}
use Rattle.lt_range.proofs.AskedLemmas.{AsksOn}
use Rattle.lt_range.proofs.asked.preferences_of.Given as goal

-- `all` are the preferences of the elements so far, and no range is left over
abbrev pub invariant-loop-place : goal.invariant-loop-place
invariant-loop-place g l = record {
  so_far : AsksOn (g.L.Lookup.listed l.table) (map parts_of l.elements) l.place l.all.items;
  empty : l.ranges.items ≡ [];
}
