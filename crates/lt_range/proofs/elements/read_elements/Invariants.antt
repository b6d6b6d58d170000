use Rattle.std.proofs.Common.{◌≡◌, ◌+◌, List, ℕ, drop, map, Bor}
use Rattle.lt_range.specs.Elements.{parts_of}
use Rattle.lt_range.specs.Headers.{elements_from, with_front}
use Rattle.lt_range.proofs.elements.read_elements.Given as goal

-- the elements so far and those of the other pieces are those of all
abbrev pub invariant-loop-index : goal.invariant-loop-index
invariant-loop-index l =
    with_front (map parts_of l.elements.items)
    (elements_from (l.index + 1) (map (λ (piece : Bor (List ℕ)). piece.now) (drop l.index l.pieces)))
    ≡ elements_from 1 (map (λ (piece : Bor (List ℕ)). piece.now) l.pieces)
