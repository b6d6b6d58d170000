use Rattle.std.proofs.Common.{◌≡◌, ◌++◌, take}
use Rattle.std.specs.Prelude.{flat_map}
use Rattle.lt_show.specs.PartKinds.{extension_kinds}
use Rattle.lt_show.proofs.walks.append_extensions.Given as goal

-- the kinds of the extensions so far are at the end
abbrev pub invariant-loop-extension : goal.invariant-loop-extension
invariant-loop-extension l = l.kinds.items ≡ l.initial.kinds.items ++ flat_map extension_kinds (take l.extension-index l.extensions)
