use Rattle.std.proofs.Common.{◌≡◌, ◌≤◌, ◌-◌, length, take}
use Rattle.lt_rows.specs.Quotes.{IsFreeOutside, place_at}
use Rattle.lt_rows.specs.declared.quotes.Place.TheVariants as places
use Rattle.lt_rows.proofs.quotes.split_outside.Given as goal

-- each byte `stop` among the bytes passed is within quotes, and the place is the one after these bytes
abbrev pub invariant-loop-front : goal.invariant-loop-front
invariant-loop-front l = record {
  inside : l.passed ≤ length l.text;
  place : l.place ≡ place_at l.delimiter places.Fresh (take l.passed l.text);
  free : IsFreeOutside l.delimiter l.stop places.Fresh (take l.passed l.text);
}

-- so it ends: each turn leaves fewer bytes
abbrev pub decreases-loop-front : goal.decreases-loop-front
decreases-loop-front l = length l.text - l.passed
