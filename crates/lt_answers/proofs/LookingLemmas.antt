-- Lemmas for `look_up_line`: at the beginning of a run no line is the closest, and at its end the closest of the lines
-- that were read is what lookup finds.
use Rattle.std.proofs.Common.{◌≡◌, ℕ, List, [], Option, Some, None, refl, arith, option_map}
use Rattle.lt_registry.specs.Parts.{EntryParts}
use Rattle.lt_range.specs.Ranges.{RangeParts}
use Rattle.lt_answers.specs.Closest.{Holds}
use Rattle.lt_answers.specs.LookedUp.{LooksUp}
use Rattle.lt_answers.specs.declared.closest.Closest.{Closest}
use Rattle.lt_answers.proofs.ClosestLemmas.{finds_line, finds_none}

-- if there are no lines, none is the closest
pub holds_none : (R : List EntryParts) (ranges : List RangeParts) → Holds R ranges [] None
holds_none R ranges = record { lists = []; have = refl; among = λ i within k none. absurd (omega (arith, none)) }

-- the closest of the lines `each` is what lookup finds among them
pub found_is : (R : List EntryParts) (ranges : List RangeParts) (each : List (List ℕ)) (closest : Option Closest)
    → Holds R ranges each closest
    → (found : _) → found ≡ option_map (λ (c : Closest). c.line) closest → LooksUp R ranges each found
found_is R ranges each None h found same = rw same (finds_none R ranges each h)
found_is R ranges each (Some closest) h found same = rw same (finds_line R ranges each closest h)
