use Rattle.std.proofs.Common.{◌≡◌, take}
use Rattle.std.specs.Prelude.{flat_map}
use Rattle.bcp47_c.specs.Records.{field_text}
use Rattle.bcp47_c.proofs.records.texts.Given as goal

-- the bytes that are made are the texts of the fields so far
abbrev pub invariant-loop-field : goal.invariant-loop-field
invariant-loop-field l = l.texts.items ≡ flat_map field_text (take l.field-index l.fields)
