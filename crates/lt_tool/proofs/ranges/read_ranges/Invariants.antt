use Rattle.std.proofs.Common.{◌≡◌, map, string_bytes, take}
use Rattle.lt_tool.specs.Selected.{AreRanges}
use Rattle.lt_tool.proofs.ranges.read_ranges.Given as goal

-- the texts so far are ranges, and `number` is how many they are
abbrev pub invariant-loop-text : goal.invariant-loop-text
invariant-loop-text g l = record {
  are : AreRanges (g.L.Lookup.listed l.table) (map string_bytes (take l.text-index l.texts)) l.ranges.items;
  numbered : l.number ≡ l.text-index;
}
