use Rattle.std.proofs.Common.{◌≤◌, ◌+◌, ◌*◌}
use Rattle.lt_registry.proofs.VariantFaultLemmas.{SameFaults}
use Rattle.lt_registry.proofs.TagFaultLemmas.{Whole, From}
use Rattle.lt_registry.proofs.validity.check_extensions.Given as goal

-- The faults of all extensions are those of the ones that are left. The first singleton is at most at 1,031, after a
-- core of 1,030 subtags, and each extension has at most 1,025 subtags, so the place stays in range.
abbrev pub invariant-loop-index : goal.invariant-loop-index
invariant-loop-index g l =
    (l.place ≤ 1031 + 1025 * l.index)
    × SameFaults (Whole (g.L.Lookup.listed l.table) l.may_repeat l.first l.extensions)
    (From (g.L.Lookup.listed l.table) l.may_repeat l.first l.extensions l.place l.index)
