use Rattle.std.proofs.Common.{◌≤◌, drop, take}
use Rattle.lt_rows.specs.Rows.{Skips}
use Rattle.lt_rows.proofs.rows.skip_fields.Given as goal

-- the rest of the row begins here, after the fields so far
abbrev pub invariant-loop-field : goal.invariant-loop-field
invariant-loop-field l = (l.at ≤ l.count) × Skips l.separator l._field (take l.count l.text) (drop l.at (take l.count l.text))
