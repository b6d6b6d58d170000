use Rattle.std.proofs.Common.{◌≡◌, ◌<◌, ◌+◌, ◌^◌, List, ℕ, length}
use Rattle.lt_tag.specs.Rest.{pieces_left}
use Rattle.lt_tag.specs.Listing.{listed, with_front}
use Rattle.lt_tag.proofs.lists.check_pieces.Given as goal

-- The number after that of the last piece fits in 32 bits. There are subtags, those so far, which in front of what the
-- pieces left are read as make what all pieces are read as.
abbrev pub invariant-loop-rest : goal.invariant-loop-rest
invariant-loop-rest l =
    (l.place + length (pieces_left l.rest) < 2 ^ 32)
    × ((front : List (List ℕ))
    × (with_front front (listed l.place (pieces_left l.rest))
    ≡ listed l.initial.place (pieces_left l.initial.rest)))

-- the pieces that are left get fewer with each turn, so the loop ends
abbrev pub decreases-loop-rest : goal.decreases-loop-rest
decreases-loop-rest l = length (pieces_left l.rest)
