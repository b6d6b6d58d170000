use Rattle.std.proofs.Common.{take}
use Rattle.lt_registry.specs.Validity.{IsProper}
use Rattle.lt_rewrite.specs.Labels.{IsTrace}
use Rattle.lt_canon.proofs.traces.follow.Given as goal

-- the steps so far lead from the tag to `here`, which is proper, so that the next step can be applied
abbrev pub invariant-loop-index : goal.invariant-loop-index
invariant-loop-index g l = record {
  led : IsTrace (g.L.Lookup.listed l.table) l.tag (take l.index l.steps) l.here;
  proper : IsProper (g.L.Lookup.listed l.table) l.here;
}
