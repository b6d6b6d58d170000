use Rattle.std.proofs.Common.{◌≡◌, ◌++◌, take}
use Rattle.lt_show.specs.Fields.{shown_fields}
use Rattle.lt_show.specs.Tables.{fields_text}
use Rattle.lt_show.proofs.tables.append_fields.Given as goal

-- the lines of the fields so far that are shown were appended
abbrev pub invariant-loop-field : goal.invariant-loop-field
invariant-loop-field l = l.told.items ≡ l.fn.told.items ++ fields_text (shown_fields (take l.field-index l.fields))
