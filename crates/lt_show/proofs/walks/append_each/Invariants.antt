use Rattle.std.proofs.Common.{◌≡◌, ◌++◌, take}
use Rattle.lt_show.specs.PartKinds.{each}
use Rattle.lt_show.proofs.walks.append_each.Given as goal

-- one kind for each subtag so far is at the end
abbrev pub invariant-loop : goal.invariant-loop
invariant-loop l = l.kinds.items ≡ l.initial.kinds.items ++ each l.kind (take l.index l.subtags)
