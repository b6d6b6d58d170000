use Rattle.std.proofs.Common.{◌≡◌, take}
use Rattle.std.specs.Prelude.{map}
use Rattle.bcp47_c.specs.Steps.{in_numbers}
use Rattle.bcp47_c.proofs.steps.front_steps.Given as goal

-- the steps are those that the numbers so far tell
abbrev pub invariant-loop-numbers : goal.invariant-loop-numbers
invariant-loop-numbers l = map in_numbers l.steps.items ≡ take l.numbers-index l.told
