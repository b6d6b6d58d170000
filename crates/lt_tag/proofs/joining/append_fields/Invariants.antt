use Rattle.std.proofs.Common.{◌≡◌, ◌++◌, take}
use Rattle.std.specs.Prelude.{flat_map}
use Rattle.lt_tag.specs.Extensions.{spell_field}
use Rattle.lt_tag.proofs.joining.append_fields.Given as goal

-- the list is what it was, and then the subtags of the fields so far
abbrev pub invariant-loop-field : goal.invariant-loop-field
invariant-loop-field l = l.list.items ≡ l.initial.list.items ++ flat_map spell_field (take l.field-index l.fields)
