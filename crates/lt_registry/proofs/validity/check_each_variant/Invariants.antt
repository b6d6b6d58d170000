use Rattle.std.proofs.Common.{◌≡◌, ◌+◌, [], take, drop}
use Rattle.lt_registry.specs.Checking.{variants_check}
use Rattle.lt_registry.proofs.validity.check_each_variant.Given as goal

-- the check of all variants is that of those that are left, the first of which has `place`: those before have no fault
abbrev pub invariant-loop-index : goal.invariant-loop-index
invariant-loop-index g l =
    (l.place ≡ l.start + l.index)
    × (variants_check (g.L.Lookup.listed l.table) l.may_repeat l.start [] l.variants
    ≡ variants_check (g.L.Lookup.listed l.table) l.may_repeat l.place (take l.index l.variants) (drop l.index l.variants))
