use Rattle.std.proofs.Common.{◌≡◌, ◌++◌, take}
use Rattle.lt_range.proofs.matching.after_front.Given as goal

-- the list begins with the subtags so far
abbrev pub invariant-loop-subtag : goal.invariant-loop-subtag
invariant-loop-subtag l = l.list ≡ take l.subtag-index l.front ++ l.rest
