use Rattle.std.proofs.Common.{◌≡◌, ◌<◌, ◌+◌, ℕ, length, take}
use Rattle.std.specs.Prelude.{flat_map}
use Rattle.lt_rewrite.specs.Applying.{IsPlaceOf}
use Rattle.lt_rewrite.proofs.part_applying.index_at.Given as goal

-- `here` is where this part begins, and none before it begins at the place that is looked for
abbrev pub invariant-loop-index : goal.invariant-loop-index
invariant-loop-index g l = record {
  here : l.here ≡ l.start + length (flat_map g.P.Spelled.spell (take l.index l.parts)) + 1;
  elsewhere : (k : ℕ) → k < l.index → IsPlaceOf g.P.Spelled.spell l.start l.parts k l.place → ⊥;
}
