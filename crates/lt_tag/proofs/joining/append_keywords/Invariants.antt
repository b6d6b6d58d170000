use Rattle.std.proofs.Common.{◌≡◌, ◌++◌, take}
use Rattle.std.specs.Prelude.{flat_map}
use Rattle.lt_tag.specs.Extensions.{spell_keyword}
use Rattle.lt_tag.proofs.joining.append_keywords.Given as goal

-- the list is what it was, and then the subtags of the keywords so far
abbrev pub invariant-loop-keyword : goal.invariant-loop-keyword
invariant-loop-keyword l = l.list.items ≡ l.initial.list.items ++ flat_map spell_keyword (take l.keyword-index l.keywords)
