use Rattle.std.proofs.Common.{◌≡◌, take}
use Rattle.lt_tag.proofs.parts.copy_fields.Given as goal

-- `copy` has the fields so far
abbrev pub invariant-loop-field : goal.invariant-loop-field
invariant-loop-field l = l.copy.items ≡ take l.field-index l.fields
