use Rattle.std.proofs.Common.{◌≡◌, take}
use Rattle.lt_tag.proofs.copies.copy_subtags.Given as goal

-- `copy` has the subtags so far
abbrev pub invariant-loop-subtag : goal.invariant-loop-subtag
invariant-loop-subtag l = l.copy.items ≡ take l.subtag-index l.subtags
