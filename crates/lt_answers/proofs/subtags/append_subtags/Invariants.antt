use Rattle.std.proofs.Common.{◌≡◌, ◌++◌, take}
use Rattle.lt_show.specs.Strings.{string}
use Rattle.lt_show.specs.Values.{commaed}
use Rattle.lt_answers.proofs.subtags.append_subtags.Given as goal

-- the strings of the subtags so far were appended, with commas between them
abbrev pub invariant-loop-index : goal.invariant-loop-index
invariant-loop-index l = l.objects.items ≡ l.initial.objects.items ++ commaed string (take l.index l.subtags)
