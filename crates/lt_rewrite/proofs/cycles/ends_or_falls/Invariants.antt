use Rattle.std.proofs.Common.{◌≡◌, ℕ, List, Some}
use Rattle.lt_registry.specs.Entries.{one_of}
use Rattle.lt_rewrite.specs.CoreSteps.{chase}
use Rattle.lt_rewrite.specs.Conditions.{next_value}
use Rattle.lt_rewrite.proofs.cycles.ends_or_falls.Given as goal

-- after as many values as there were turns the walk from the record's value is at `subtag`
abbrev pub invariant-loop-step : goal.invariant-loop-step
invariant-loop-step g l = (v : List ℕ) → one_of l.entry.value ≡ Some v
    → l.subtag ≡ chase (next_value (g.L.Lookup.listed l.table) l.kind) l._step v
