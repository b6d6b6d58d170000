use Rattle.std.proofs.Common.{◌≡◌, ◌<◌, ℕ, Some, length, slice_get}
use Rattle.lt_rewrite.specs.Shortcuts.{IsShortcut}
use Rattle.lt_rewrite.proofs.shortcuts.first_places.Given as goal

-- there is one place for each entry so far, to which its shortcut of one value leads
abbrev pub invariant-loop-place : goal.invariant-loop-place
invariant-loop-place g l = record {
  count : length l.places.items ≡ l.place;
  within : (i j : ℕ) → slice_get l.places.items i ≡ Some j → j < length (g.L.Lookup.listed l.table);
  shortcut : (i j : ℕ) → slice_get l.places.items i ≡ Some j → IsShortcut (g.L.Lookup.listed l.table) 1 i j;
}
