use Rattle.std.proofs.Common.{◌≡◌, take}
use Rattle.lt_tag.proofs.cores.copy_extlangs.Given as goal

-- `copy` has the extlangs so far
abbrev pub invariant-loop-extlang : goal.invariant-loop-extlang
invariant-loop-extlang l = l.copy.items ≡ take l.extlang-index l.extlang-items
