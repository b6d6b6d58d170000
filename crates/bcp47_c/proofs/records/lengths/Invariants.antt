use Rattle.std.proofs.Common.{◌≡◌, take}
use Rattle.std.specs.Prelude.{map}
use Rattle.bcp47_c.specs.Records.{lengths_of}
use Rattle.bcp47_c.proofs.records.lengths.Given as goal

-- the list that is made has the lengths of the fields so far
abbrev pub invariant-loop-field : goal.invariant-loop-field
invariant-loop-field l = l.lengths.items ≡ map lengths_of (take l.field-index l.fields)
