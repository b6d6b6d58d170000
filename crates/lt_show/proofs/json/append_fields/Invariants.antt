use Rattle.std.proofs.Common.{◌≡◌, ◌++◌, ◌≤◌, length, take}
use Rattle.lt_show.specs.Values.{commaed}
use Rattle.lt_show.specs.Fields.{shown_fields}
use Rattle.lt_show.specs.Json.{field_value}
use Rattle.lt_show.proofs.json.append_fields.Given as goal

-- the values of the fields so far that are shown were appended, with commas between them, and counted
abbrev pub invariant-loop-field : goal.invariant-loop-field
invariant-loop-field l = record {
  text : l.objects.items ≡ l.initial.objects.items ++ commaed field_value (shown_fields (take l.field-index l.fields));
  count : l.count ≡ length (shown_fields (take l.field-index l.fields));
  few : l.count ≤ l.field-index;
}
