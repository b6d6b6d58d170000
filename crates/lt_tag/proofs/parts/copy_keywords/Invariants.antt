use Rattle.std.proofs.Common.{◌≡◌, take}
use Rattle.lt_tag.proofs.parts.copy_keywords.Given as goal

-- `copy` has the keywords so far
abbrev pub invariant-loop-keyword : goal.invariant-loop-keyword
invariant-loop-keyword l = l.copy.items ≡ take l.keyword-index l.keywords
