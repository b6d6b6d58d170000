use Rattle.std.proofs.Common.{◌≡◌, ◌++◌, take}
use Rattle.lt_show.specs.Values.{commaed}
use Rattle.lt_show.specs.Json.{row_value}
use Rattle.lt_show.proofs.json.append_each.Given as goal

-- the values of the rows so far were appended, with commas between them
abbrev pub invariant-loop-index : goal.invariant-loop-index
invariant-loop-index l = l.objects.items ≡ l.initial.objects.items ++ commaed (row_value l.text l.records) (take l.index l.rows)
