use Rattle.std.proofs.Common.{◌≤◌, drop, take}
use Rattle.lt_rows.specs.Lanes.{AreBitsFrom}
use Rattle.lt_rows.specs.Rows.{Skips, separator}
use Rattle.lt_rows.proofs.short_rows.short_field_at.Given as goal

-- the fields so far end before the start, and the bits set are those of the separators from there on
abbrev pub invariant-loop-field : goal.invariant-loop-field
invariant-loop-field l = (l.start ≤ l.count) × Skips l.fn.separator l._field (take l.count l.text) (drop l.start (take l.count l.text))
    × AreBitsFrom (separator l.fn.separator) l.start (take l.count l.text) l.bits
