use Rattle.std.proofs.Common.{◌≡◌, ◌++◌, take}
use Rattle.std.specs.Prelude.{map}
use Rattle.lt_show.specs.PartKinds.{in_source, core_kinds}
use Rattle.lt_show.proofs.walks.append_source.Given as goal

-- the kinds of the source's subtags so far are at the end
abbrev pub invariant-loop-kind : goal.invariant-loop-kind
invariant-loop-kind l = l.kinds.items ≡ l.initial.kinds.items ++ map in_source (take l.kind-index (core_kinds l.source))
