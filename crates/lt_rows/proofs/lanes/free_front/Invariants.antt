use Rattle.std.proofs.Common.{◌≤◌, ◌-◌, length, take}
use Rattle.lt_rows.specs.Splitting.{IsFreeOf}
use Rattle.lt_rows.proofs.lanes.free_front.Given as goal

-- neither byte is among those so far
abbrev pub invariant-loop-at : goal.invariant-loop-at
invariant-loop-at l = (l.at ≤ length l.text) × IsFreeOf l.one (take l.at l.text) × IsFreeOf l.other (take l.at l.text)

-- so it ends: each turn leaves fewer bytes
abbrev pub decreases-loop-at : goal.decreases-loop-at
decreases-loop-at l = length l.text - l.at
