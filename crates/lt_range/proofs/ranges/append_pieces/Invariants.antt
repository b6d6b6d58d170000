use Rattle.std.proofs.Common.{◌≡◌, ◌++◌, List, ℕ, length}
use Rattle.lt_tag.specs.Rest.{pieces_left}
use Rattle.lt_range.specs.Reading.{later_pieces, with_front}
use Rattle.lt_range.proofs.ranges.append_pieces.Given as goal

-- the subtags so far and those of what is left are those of the pieces
abbrev pub invariant-loop-rest : goal.invariant-loop-rest
invariant-loop-rest l =
    (front : List (List ℕ)) × (l.named.items ≡ l.initial.named.items ++ front)
    × (with_front front (later_pieces (pieces_left l.rest)) ≡ later_pieces (pieces_left l.pieces))

-- each turn leaves a piece less
abbrev pub decreases-loop-rest : goal.decreases-loop-rest
decreases-loop-rest l = length (pieces_left l.rest)
