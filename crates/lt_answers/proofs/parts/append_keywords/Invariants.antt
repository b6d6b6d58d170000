use Rattle.std.proofs.Common.{◌≡◌, ◌++◌, take}
use Rattle.lt_show.specs.Values.{commaed}
use Rattle.lt_answers.specs.Parts.{keyword_value}
use Rattle.lt_answers.proofs.parts.append_keywords.Given as goal

-- the values of the keywords so far were appended, with commas between them
abbrev pub invariant-loop-index : goal.invariant-loop-index
invariant-loop-index l = l.objects.items ≡ l.initial.objects.items ++ commaed keyword_value (take l.index l.keywords)
