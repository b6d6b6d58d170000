use Rattle.std.proofs.Common.{◌≡◌, ◌++◌, take}
use Rattle.lt_show.specs.Values.{commaed}
use Rattle.lt_answers.specs.Parts.{field_value}
use Rattle.lt_answers.proofs.parts.append_fields.Given as goal

-- the values of the fields so far were appended, with commas between them
abbrev pub invariant-loop-index : goal.invariant-loop-index
invariant-loop-index l = l.objects.items ≡ l.initial.objects.items ++ commaed field_value (take l.index l.fields)
