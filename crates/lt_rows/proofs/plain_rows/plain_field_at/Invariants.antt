use Rattle.std.proofs.Common.{◌≡◌, ◌≤◌, ◌-◌, List, ℕ, drop, length, take}
use Rattle.memchr.specs.Find.{is_byte, places_from}
use Rattle.lt_rows.specs.Rows.{Skips, separator}
use Rattle.lt_rows.specs.Splitting.{IsNear}
use Rattle.lt_rows.proofs.plain_rows.plain_field_at.Given as goal

-- the fields so far end before the start, and the places left are those of the separators from there on
abbrev pub invariant-loop-field : goal.invariant-loop-field
invariant-loop-field l = (l.start ≤ l.count) × Skips l.fn.separator l._field (take l.count l.text) (drop l.start (take l.count l.text))
    × ((near : List ℕ) × IsNear l.count l.text near
    × (l.places ≡ places_from (is_byte (separator l.fn.separator)) near l.start (length near - l.start)))
