use Rattle.std.proofs.Common.{length, List, ℕ, [], ◌∷◌, ◌++◌, sym, ap, ◌∙◌, arith}
use Rattle.std.specs.Prelude.{is_ok}
use Rattle.std.proofs.lemmas.Result.{err_from_is_err_and}
use Rattle.lt_tag.specs.Rest.{pieces_left}
use Rattle.lt_tag.specs.Listing.{listed, with_front}
use Rattle.lt_tag.proofs.ListedLemmas.{front_next, front_end, front_stop}
use Rattle.lt_tag.proofs.lists.check_pieces.Goals as goal

-- all pieces before this one are subtags, so its fault is that of the leftmost that is none
pub returns-in_err-subtag_at : goal.returns-in_err-subtag_at
returns-in_err-subtag_at c =
    let p = err_from_is_err_and c.from_residual.result c.from_residual.ensures.1 in
    let front = c.loop-rest.invariant.1.0 in
    let whole = rw c.in-Some.is at c.loop-rest.invariant.1.1 in
    let split = c.cut_piece.ensures.pieces in
    let stop = front_stop front c.loop-rest.place c.cut_piece.result.0.now (pieces_left c.cut_piece.result.1)
    c.in_err-subtag_at.field-0.0 (sym c.subtag_at.ensures ∙ c.in_err-subtag_at.was) in
    rw (p.1, p.2) (sym whole ∙ ap (λ (z : List (List ℕ)). with_front front (listed c.loop-rest.place z)) split ∙ stop)

-- a turn reads one piece more as a subtag, and the next piece has the next number
pub loop-rest-preserved : goal.loop-rest-preserved
loop-rest-preserved c =
    let front = c.loop-rest.invariant.1.0 in
    let whole = rw c.in-Some.is at c.loop-rest.invariant.1.1 in
    let few = rw c.in-Some.is at c.loop-rest.invariant.0 in
    let split = c.cut_piece.ensures.pieces in
    let count = ap length split in
    let step = front_next front c.loop-rest.place c.cut_piece.result.0.now (pieces_left c.cut_piece.result.1)
    c.in_ok-subtag_at.field-0 (sym c.subtag_at.ensures ∙ c.in_ok-subtag_at.was) in (
      omega (arith, few, count),
      (
        front ++ c.in_ok-subtag_at.field-0 ∷ [],
        sym step
            ∙ sym (ap (λ (z : List (List ℕ)). with_front front (listed c.loop-rest.place z)) split) ∙ whole,
      ),
    )

-- no piece is left, so all are subtags, and Ok is right
pub returns : goal.returns
returns c =
    let whole = rw c.in_default.is at c.loop-rest.invariant.1.1 in
    rw (← whole) (ap is_ok (front_end c.loop-rest.invariant.1.0 c.loop-rest.place))
