use Rattle.std.proofs.Common.{false, ◌≡◌, ◌<◌, ◌-◌, length}
use Rattle.lt_rewrite.specs.Shortcuts.{GrowNoMore, LeadOn}
use Rattle.lt_rewrite.proofs.shortcuts.last_places.Given as goal

-- Each shortcut leads over at least `steps` values, or to the end of the chain (`lead`), and `steps` is not zero. If no
-- shortcut changed in the turn before, none can get longer (`rest`).
abbrev pub invariant-loop-steps : goal.invariant-loop-steps
invariant-loop-steps g l = record {
  some : 0 < l.steps;
  rest : l.grows ≡ false → GrowNoMore l.places.items;
  lead : LeadOn (g.L.Lookup.listed l.table) l.steps l.places.items;
}

-- the loop ends, since `steps` comes closer to the number of places
abbrev pub decreases-loop-steps : goal.decreases-loop-steps
decreases-loop-steps g l = length l.places.items - l.steps
