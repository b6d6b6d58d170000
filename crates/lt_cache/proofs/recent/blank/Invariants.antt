use Rattle.std.proofs.Common.{◌≡◌, None, replicate}
use Rattle.lt_cache.proofs.recent.blank.Given as goal

-- the places so far hold nothing, and there is one for each turn
abbrev pub invariant-loop-place : goal.invariant-loop-place
invariant-loop-place l = l.places.items ≡ replicate l._place None
