use Rattle.std.proofs.Common.{ℕ, ◌<◌, ◌≤◌}
use Rattle.lt_tag.specs.Lists.{list_of}
use Rattle.lt_tag.specs.Grandfathered.{IsGrandfathered}
use Rattle.lt_tag.proofs.grandfathered.number_of_text.Given as goal

-- the number is from 1 on, and the list of the text has none of the numbers before it
abbrev pub invariant-loop-number : goal.invariant-loop-number
invariant-loop-number l = (1 ≤ l.number) × ((k : ℕ) → k < l.number → IsGrandfathered (list_of l.text) k → ⊥)
