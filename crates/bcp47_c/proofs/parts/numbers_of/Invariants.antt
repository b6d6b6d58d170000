use Rattle.std.proofs.Common.{◌≡◌, take}
use Rattle.std.specs.Prelude.{map}
use Rattle.bcp47_c.specs.Parts.{in_numbers}
use Rattle.bcp47_c.proofs.parts.numbers_of.Given as goal

-- the list that is made has the parts so far in numbers
abbrev pub invariant-loop-part : goal.invariant-loop-part
invariant-loop-part l = l.numbers.items ≡ map in_numbers (take l.part-index l.parts)
