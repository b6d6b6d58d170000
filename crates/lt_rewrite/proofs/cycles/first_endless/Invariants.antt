use Rattle.std.proofs.Common.{All, take}
use Rattle.lt_rewrite.specs.Conditions.{HasEndingChain}
use Rattle.lt_rewrite.proofs.cycles.first_endless.Given as goal

-- each chain of the records so far ends
abbrev pub invariant-loop-entry : goal.invariant-loop-entry
invariant-loop-entry g l = All (HasEndingChain (g.L.Lookup.listed l.table)) (take l.entry-index l.entry-items)
