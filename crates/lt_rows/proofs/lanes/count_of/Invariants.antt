use Rattle.std.proofs.Common.{◌≡◌, ◌≤◌, ◌-◌, ◌==◌, count_by, length, take}
use Rattle.lt_rows.proofs.lanes.count_of.Given as goal

-- the count is how many of the bytes so far are this one
abbrev pub invariant-loop-at : goal.invariant-loop-at
invariant-loop-at l = (l.at ≤ length l.text) × (l.count ≤ l.at) × (l.count ≡ count_by (λ other. other == l.fn.byte) (take l.at l.text))

-- so it ends: each turn leaves fewer bytes
abbrev pub decreases-loop-at : goal.decreases-loop-at
decreases-loop-at l = length l.text - l.at
