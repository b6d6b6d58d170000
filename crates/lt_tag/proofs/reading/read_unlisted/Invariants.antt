use Rattle.std.proofs.Common.{◌≤◌, ◌+◌, length}
use Rattle.lt_tag.specs.Rest.{pieces_left}
use Rattle.lt_tag.specs.DraftViews.{draft_view}
use Rattle.lt_tag.proofs.MisplacedLemmas.{HasRead}
use Rattle.lt_tag.proofs.reading.read_unlisted.Given as goal

-- the draft is that of the subtags so far, and at most 1,025 pieces were read or are left: a text has 1,024 bytes
abbrev pub invariant-loop-rest : goal.invariant-loop-rest
invariant-loop-rest l =
    (l.place + length (pieces_left l.rest) ≤ 1025) × HasRead l.text l.place (pieces_left l.rest) (draft_view l.draft)

-- the pieces that are left get fewer with each turn, so the loop ends
abbrev pub decreases-loop-rest : goal.decreases-loop-rest
decreases-loop-rest l = length (pieces_left l.rest)
