use Rattle.std.proofs.Common.{◌≡◌, take}
use Rattle.lt_show.specs.Fields.{kept_fields}
use Rattle.lt_show.proofs.reading.copy_fields.Given as goal

-- the copies are the fields so far that are kept
abbrev pub invariant-loop-field : goal.invariant-loop-field
invariant-loop-field l = l.copies.items ≡ kept_fields (take l.field-index l.fields)
