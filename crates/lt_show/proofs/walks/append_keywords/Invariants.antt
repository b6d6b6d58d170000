use Rattle.std.proofs.Common.{◌≡◌, ◌++◌, take}
use Rattle.std.specs.Prelude.{flat_map}
use Rattle.lt_show.specs.PartKinds.{keyword_kinds}
use Rattle.lt_show.proofs.walks.append_keywords.Given as goal

-- the kinds of the keywords so far are at the end
abbrev pub invariant-loop-keyword : goal.invariant-loop-keyword
invariant-loop-keyword l = l.kinds.items ≡ l.initial.kinds.items ++ flat_map keyword_kinds (take l.keyword-index l.keywords)
