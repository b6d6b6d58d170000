use Rattle.std.proofs.Common.{◌≡◌, ◌++◌, take}
use Rattle.lt_tag.proofs.splitting.append.Given as goal

-- the list is what it was, and then the subtags so far
abbrev pub invariant-loop-subtag : goal.invariant-loop-subtag
invariant-loop-subtag l = l.list.items ≡ l.initial.list.items ++ take l.subtag-index l.subtags
