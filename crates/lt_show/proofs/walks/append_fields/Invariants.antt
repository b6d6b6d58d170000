use Rattle.std.proofs.Common.{◌≡◌, ◌++◌, take}
use Rattle.std.specs.Prelude.{flat_map}
use Rattle.lt_show.specs.PartKinds.{field_kinds}
use Rattle.lt_show.proofs.walks.append_fields.Given as goal

-- the kinds of the fields so far are at the end
abbrev pub invariant-loop-field : goal.invariant-loop-field
invariant-loop-field l = l.kinds.items ≡ l.initial.kinds.items ++ flat_map field_kinds (take l.field-index l.fields)
