use Rattle.std.proofs.Common.{◌≡◌, ◌++◌, take}
use Rattle.lt_show.specs.Values.{commaed}
use Rattle.lt_answers.specs.Parts.{extension_value}
use Rattle.lt_answers.proofs.extensions.append_extensions.Given as goal

-- the values of the extensions so far were appended, with commas between them
abbrev pub invariant-loop-index : goal.invariant-loop-index
invariant-loop-index l = l.objects.items ≡ l.initial.objects.items ++ commaed extension_value (take l.index l.extensions)
